-- `next_below` meets its contract. Assumes nothing.
use Rattle.weighed.proofs.Neighbouring.{next_same}
use Rattle.weighed.proofs.neighbours.next_below.Goals as goal

pub returns : goal.returns
returns c = next_same _ _ c.below.ensures
