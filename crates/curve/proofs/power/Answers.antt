-- `power` meets its contract: the sum, as it stands. Assumes nothing.
use mathlib.Core.Path.{refl}
use Rattle.curve.specs.Factor.{power_of}
use Rattle.curve.proofs.power.Goals as goal

pub returns : goal.returns
unfolding power_of
returns c = refl
