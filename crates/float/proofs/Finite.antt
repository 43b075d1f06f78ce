-- No units at all round to a zero. Assumes nothing.
use mathlib.Core.Path.{◌≡◌, refl, ◌∙◌}
use Prim.Native.Nat.{ℕ, ◌*◌, ◌<◌}
use native.Mathlib.Nat.{zero-mul, mul-one}
use native.Mathlib.Omega.{arith}
use mathlib.Core.Bool.{Bool}
use lib.Dec.{lit<}
use lib.IntN.{pos}
use lib.Ieee.{fin, binary32, round}
use lib.Ieee.Scale.{round_same}

pub round-zero : (s : Bool) (a c : ℕ) → a ≡ 0 → 0 < c → round binary32 s a c ≡ fin s 0 (pos 0)
unfolding round
round-zero s a c z C =
    round_same binary32 s a c 0 1 C (lit< tt) (mul-one a ∙ z ∙ (let h : 0 * c ≡ 0 = zero-mul c in omega arith))
    ∙ refl
