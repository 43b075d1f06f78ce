-- `see` meets its contract: the two colours. Assumes nothing.
use Rattle.apart.proofs.Telling.{seen-is}
use Rattle.apart.proofs.see.Goals as goal

pub returns : goal.returns
returns c = seen-is _ _ _ c.colour_at-ramp.ensures c.colour_at-list.ensures
