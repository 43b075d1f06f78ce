-- `series` meets its contract: the sum, as it stands. Assumes nothing.
use mathlib.Core.Path.{refl}
use Rattle.curve.specs.Depth.{series_of}
use Rattle.curve.proofs.series.Goals as goal

pub returns : goal.returns
unfolding series_of
returns c = refl
