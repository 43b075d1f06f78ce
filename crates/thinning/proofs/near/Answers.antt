-- `near` meets its contract: the two comparisons are the one of the size. Assumes nothing.
use Rattle.thinning.proofs.TwoSides.{near_is}
use Rattle.thinning.proofs.near.Goals as goal

pub returns : goal.returns
returns c = near_is c.args.last c.args.x
