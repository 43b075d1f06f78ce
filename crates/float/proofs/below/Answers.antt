-- `float::below` meets its contract: it is what lies above the number's opposite, turned back. Assumes nothing.
use Rattle.float.proofs.Neighbours.{below_is}
use Rattle.float.proofs.below.Goals as goal

pub returns : goal.returns
returns c = below_is _ _ c.above.ensures
