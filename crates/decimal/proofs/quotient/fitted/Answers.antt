-- `decimal::quotient::fitted` meets its contract: den is half of what num asks for at most. Assumes nothing.
use native.Mathlib.Omega.{arith}
use Rattle.decimal.proofs.quotient.fitted.Goals as goal

pub returns-then-den-num : goal.returns-then-den-num
returns-then-den-num c = record { is = omega arith; once = omega arith; bound = omega arith; above = omega arith; under = λ h l. omega arith }

pub returns : goal.returns
returns c = record { is = omega arith; once = omega arith; bound = omega arith; above = omega arith; under = λ h l. omega arith }
