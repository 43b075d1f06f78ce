-- `is_told` meets its contract: of the difference. Assumes nothing.
use Rattle.apart.proofs.Telling.{told_is}
use Rattle.apart.proofs.depth.is_told.Goals as goal

pub returns : goal.returns
returns c = told_is _ _ _ c.distance.ensures
