-- `output::put_all` meets its contract: what the output has room for is copied. Assumes nothing.
use Rattle.text.proofs.Putting.{part_put}
use Rattle.text.proofs.output.put_all.Goals as goal

pub returns : goal.returns
returns c = part_put c.min-from.ensures c.min-n.ensures c.copy_from_slice.ensures.after c.saturating_add.ensures
