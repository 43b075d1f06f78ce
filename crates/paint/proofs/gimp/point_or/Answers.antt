-- `point_or` meets its contract: the point that it read, or the other number. Assumes nothing.
use mathlib.Core.Path.{refl}
use native.Mathlib.Omega.{arith}
use Rattle.paint.proofs.gimp.point_or.Goals as goal

pub returns-then-j-end : goal.returns-then-j-end
returns-then-j-end c = record { here = λ h. refl; past = λ h. absurd (omega arith) }

pub returns-else-j-end : goal.returns-else-j-end
returns-else-j-end c = record { here = λ h. absurd (omega arith); past = λ h. refl }
