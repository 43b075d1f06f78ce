-- A size below a bound is two comparisons: below the bound, and above what lies as far on the other side of zero. Assumes nothing.
use mathlib.Core.Path.{◌≡◌, refl}
use mathlib.Core.Bool.{Bool, true, false, ◌&&◌}
use Prim.Native.Nat.{ℕ, ◌+◌, ◌*◌, ◌<◌}
use native.Mathlib.Nat.{mul-pos}
use native.Mathlib.Omega.{arith}
use lib.Dec.{lit<}
use lib.IntN.{ℤ, negsuc}
use lib.Ieee.{Float, nan, inf, fin, up, down, lt, neg, of_bits}
use lib.Ieee.Fits.{up_pos, down_pos}
use borrow.Author.Tests.{lt-ltb}
use Rattle.float.specs.F32.{◌⊖◌, epsilon}
use Rattle.float.specs.Number.{magnitude_of}
use Rattle.thinning.specs.Kept.{near_of}

and-true : (b : Bool) → b && true ≡ b
and-true true = refl
and-true false = refl

module _ (n : ℕ) (f : ℤ) (some : 0 < n) where
  -- the bound is above zero
  above : (e : ℤ) → 0 < n * up f * down e
  above e = mul-pos (mul-pos some (up_pos f)) (down_pos e)

  two_sides : (d : Float) → lt d (fin false n f) && lt (fin true n f) d ≡ lt (magnitude_of d) (fin false n f)
  unfolding lt magnitude_of
  two_sides nan = refl
  two_sides (inf true) = refl
  two_sides (inf false) = refl
  two_sides (fin true m e) = let h : 0 < m * up e * down f + n * up f * down e = omega (arith, above e) in simp (lt-ltb 0 _ h)
  two_sides (fin false m e) = let h : 0 < n * up f * down e + m * up e * down f = omega (arith, above e) in simp (lt-ltb 0 _ h, and-true)

pub near_is : (last x : Float) → lt (last ⊖ x) epsilon && lt (neg epsilon) (last ⊖ x) ≡ near_of last x
unfolding of_bits neg near_of
near_is last x = two_sides 1 (negsuc 22) (lit< tt) (last ⊖ x)
