-- `is_inside` meets its contract: both comparisons are the definition's. Assumes nothing.
use mathlib.Core.Path.{refl}
use Rattle.weighed.specs.Points.{inside}
use Rattle.weighed.proofs.is_inside.Goals as goal

pub returns : goal.returns
unfolding inside
returns c = refl
