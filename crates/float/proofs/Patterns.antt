-- Which patterns are a NaN's, and what the test `x != x` tells. Assumes nothing.
use mathlib.Core.Path.{◌≡◌, refl, sym, ◌∙◌, subst}
use mathlib.Core.Bool.{Bool, true, false, not}
use Prim.Native.Nat.{ℕ, ◌%◌, ◌≤◌, ◌<◌}
use native.Mathlib.Nat.{lt_of_not-le}
use native.Mathlib.Decide.{dec_le}
use native.Mathlib.Omega.{arith}
use lib.Dec.{T}
use lib.Ieee.{Float, nan, inf, fin, binary32, ne, is_nan, of_bits, to_bits, nan_bits}
use lib.Ieee.Bits.{nan_bits_is, nan_bits_above}
use lib.Ieee.Compare.{nan_differs, differs_from_itself}
use borrow.Author.Tests.{lt-ltb, le-ltb}

-- it was false: x is no NaN
pub is_number : (x : Float) → ne x x ≡ false → T (not (is_nan x))
unfolding is_nan
is_number nan h = subst T h (subst T (sym nan_differs) tt)
is_number (inf s) h = tt
is_number (fin s m e) h = tt

-- it was true: x is the NaN
pub is_nan_lem : (x : Float) → ne x x ≡ true → x ≡ nan
is_nan_lem x h = differs_from_itself x (subst T (sym h) tt)

-- a pattern that is, but for its sign, no more than the infinity's is a number's
pub number_pattern : (b : ℕ) → b % 2147483648 ≤ 2139095040 → T (not (nan_bits binary32 b))
number_pattern b h = subst (λ (x : Bool). T (not x)) (sym (nan_bits_above binary32 b ∙ le-ltb 2139095040 (b % 2147483648) h)) tt

pub only_nan : (x : Float) → is_nan x ≡ true → x ≡ nan
unfolding is_nan
only_nan nan h = refl
only_nan (inf s) h = absurd (subst T (sym h) tt)
only_nan (fin s m e) h = absurd (subst T (sym h) tt)

-- any other is a NaN's
pub nan_pattern : (b : ℕ) → 2139095040 < b % 2147483648 → of_bits binary32 b ≡ nan
nan_pattern b h = only_nan (of_bits binary32 b) (sym (nan_bits_is binary32 b) ∙ nan_bits_above binary32 b ∙ lt-ltb 2139095040 (b % 2147483648) h)

-- and a number's, the sign clear, is no more than the infinity's
pub number_below : (b : ℕ) → b < 2147483648 → T (not (nan_bits binary32 b)) → b ≤ 2139095040
number_below b l h = go (dec_le b 2139095040)
  where
    go : Dec (b ≤ 2139095040) → b ≤ 2139095040
    go (yes m) = m
    go (no f) = let m = lt_of_not-le f in absurd (subst (λ (x : Bool). T (not x)) (nan_bits_above binary32 b ∙ lt-ltb 2139095040 (b % 2147483648) (omega arith)) h)

-- what `to_bits` gives of a NaN
pub pattern_of_nan : to_bits binary32 nan ≡ 2143289344
unfolding to_bits
pattern_of_nan = refl
