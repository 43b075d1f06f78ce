-- `is_fair` meets its contract: the mix, how far off it may be, and the test of both. Assumes nothing.
use Rattle.within.proofs.Blocks.{fair_by}
use Rattle.within.proofs.fair.is_fair.Goals as goal

pub returns : goal.returns
returns c = fair_by _ _ _ _ _ _ c.interpolate_linear-foretold.ensures c.off_at.ensures c.is_near.ensures
