-- `blending::spherical_decreasing` meets its contract: by what the root ensures. Assumes nothing.
use Rattle.gradient.specs.Gimp.{decreasing}
use mathlib.Core.Path.{ap}
use lib.Ieee.{Float}
use Rattle.float.specs.F32.{◌⊖◌, f1}
use Rattle.gradient.proofs.blending.spherical_decreasing.Goals as goal

pub returns : goal.returns
unfolding decreasing
returns c = ap (λ (x : Float). f1 ⊖ x) c.root.ensures
