-- `colorgrad_read_told` meets its contract: the answer of `ggr`, told, and what that answer leaves. Assumes nothing.
use Rattle.colorgrad_c.proofs.Naming.{reads}
use Rattle.colorgrad_c.proofs.gimp.colorgrad_read_told.Goals as goal

pub returns : goal.returns
returns c =
    reads c.read-answer.ensures (c.tell_read.ensures.value, c.tell_read.ensures.told_value)
