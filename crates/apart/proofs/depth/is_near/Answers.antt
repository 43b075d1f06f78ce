-- `is_near` meets its contract: of the difference. Assumes nothing.
use Rattle.apart.proofs.Telling.{near_is}
use Rattle.apart.proofs.depth.is_near.Goals as goal

pub returns : goal.returns
returns c = near_is _ _ _ c.distance.ensures
