-- `decimal::shift::down_magnitude` meets its contract: by whichever division. Assumes nothing.
use mathlib.Core.Path.{subst}
use Prim.Native.Nat.{ℕ, ◌^◌}
use native.Mathlib.Nat.{mul-one, lt_of_le_of_lt}
use native.Mathlib.Omega.{arith}
use lib.Dec.{lit<}
use Rattle.decimal.specs.inner.Steps.{BitsOf}
use Rattle.decimal.proofs.Scale.{five_le}
use Rattle.decimal.proofs.shift.down_magnitude.Goals as goal

pub returns-in-Some : goal.returns-in-Some
returns-in-Some c = c.near_magnitude.ensures _ c.in-Some.is

-- 5 ^ 27 fits a word
pub pow-requires : goal.pow-requires
pow-requires c = lt_of_le_of_lt (five_le c.args.down 27 (omega arith)) (lit< tt)

pub returns-in-None : goal.returns-in-None
returns-in-None c = c.magnitude.ensures

pub returns-in-None-2 : goal.returns-in-None-2
returns-in-None-2 c =
    let a = c.args in
    subst (λ (x : ℕ). BitsOf x (10 ^ a.down) c.long_magnitude.result) (mul-one a.d) c.long_magnitude.ensures
