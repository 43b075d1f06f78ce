-- `decimal::shift::cancelled` meets its contract: the smaller goes off both. Assumes nothing.
use mathlib.Core.Path.{refl}
use mathlib.Core.Logic.{inl, inr}
use native.Mathlib.Omega.{arith}
use Rattle.decimal.proofs.shift.cancelled.Goals as goal

pub returns-then-a-b : goal.returns-then-a-b
returns-then-a-b c = record { up_is = omega arith; down_is = omega arith; one = inl refl }

pub returns : goal.returns
returns c = record { up_is = omega arith; down_is = omega arith; one = inr refl }
