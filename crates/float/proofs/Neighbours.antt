-- The f32 just above a number, by its sign: what `above` answers, and that it may read the patterns. Assumes nothing.
use mathlib.Core.Path.{◌≡◌, refl, sym, ap, ◌∙◌, subst}
use mathlib.Core.Bool.{Bool, true, false, not, true≢false}
use Prim.Native.Nat.{ℕ, ◌+◌, ◌-◌, ◌*◌, ◌%◌, ◌≤◌, ◌<◌}
use native.Mathlib.Decide.{dec_le}
use native.Mathlib.Omega.{arith}
use borrow.Author.Tests.{ltb-true}
use lib.Dec.{T}
use lib.Ieee.{Float, nan, inf, fin, binary32, up, down, fits, to_bits, of_bits, neg, div, lt, eq, is_nan, nan_bits}
use lib.Ieee.Bits.{to_bits-lt, is_true}
use Rattle.float.specs.F32.{f0}
use Rattle.float.specs.Number.{magnitude_of, above_of, below_of}
use Rattle.float.proofs.Order.{as_T, lt→le, not_lt_from_le, le_from_eq, ge_from_eq, le_antisym, le_from_not_lt, no_nan_l, no_nan_r}
use Rattle.float.proofs.Patterns.{only_nan, number_pattern, nan_pattern}
use Rattle.float.proofs.Signs.{pattern_magnitude, magnitude_back, magnitude_below, minus_bits}

zero_number : is_nan f0 ≡ false
unfolding is_nan of_bits
zero_number = refl

none : div binary32 (of_bits binary32 0) (of_bits binary32 0) ≡ nan
unfolding div of_bits
none = refl

number : (x : Float) → is_nan x ≡ false → T (not (is_nan x))
number x e = subst (λ (b : Bool). T (not b)) (sym e) tt

-- ---- above zero
plus_magnitude : (x : Float) → lt f0 x ≡ true → magnitude_of x ≡ x
unfolding magnitude_of lt of_bits
plus_magnitude nan h = refl
plus_magnitude (inf true) h = absurd (true≢false (sym h))
plus_magnitude (inf false) h = refl
plus_magnitude (fin true m e) h = absurd (true≢false (sym h))
plus_magnitude (fin false m e) h = refl

module _ (x : Float) (h : lt f0 x ≡ true) where
  pub plus_number : T (not (is_nan x))
  plus_number = number x (no_nan_r f0 x (lt→le f0 x (as_T _ h)))

  not-zero : eq x f0 ≡ false
  not-zero = go (eq x f0) refl
    where
      go : (b : Bool) → eq x f0 ≡ b → b ≡ false
      go true e = absurd (true≢false (sym h ∙ not_lt_from_le f0 x (le_from_eq x f0 (as_T _ e))))
      go false e = refl

  not_minus : lt x f0 ≡ false
  not_minus = not_lt_from_le x f0 (lt→le f0 x (as_T _ h))

  module _ (f : T (fits binary32 x)) where
    pub plus_below : to_bits binary32 x ≤ 2139095040
    plus_below = omega (arith, magnitude_below x f plus_number, sym (pattern_magnitude x f) ∙ ap (to_bits binary32) (plus_magnitude x h))

    pub next_pattern : (to_bits binary32 x ≡ 2139095040 → ⊥) → T (not (nan_bits binary32 (to_bits binary32 x + 1)))
    next_pattern n = let l = plus_below in number_pattern (to_bits binary32 x + 1) (omega arith)

  pub above_plus : of_bits binary32 (to_bits binary32 x + 1) ≡ above_of x
  unfolding above_of
  above_plus = rw (not-zero, not_minus, plus_magnitude x h)

  pub above_infinity : to_bits binary32 x ≡ 2139095040 → div binary32 (of_bits binary32 0) (of_bits binary32 0) ≡ above_of x
  above_infinity e = none ∙ sym (nan_pattern (to_bits binary32 x + 1) (omega arith)) ∙ above_plus

-- ---- below zero
minus_set : (x : Float) → lt x f0 ≡ true → 2147483648 ≤ to_bits binary32 x
unfolding lt of_bits to_bits
minus_set nan h = absurd (true≢false (sym h))
minus_set (inf true) h = omega arith
minus_set (inf false) h = absurd (true≢false (sym h))
minus_set (fin true m e) h = minus_bits m e
minus_set (fin false m e) h = let k = ltb-true (m * up e * 1) (0 * 1 * down e) h in absurd (omega arith)

-- it is not 0
abbrev digits : Float → ℕ
digits nan = 1
digits (inf s) = 1
digits (fin s m e) = m * up e

zero-digits : digits f0 ≡ 0
unfolding of_bits
zero-digits = refl

minus_some : (x : Float) → lt x f0 ≡ true → digits (magnitude_of x) ≡ 0 → ⊥
unfolding lt of_bits magnitude_of
minus_some nan h z = true≢false (sym h)
minus_some (inf s) h z = omega arith
minus_some (fin true m e) h z = let k = ltb-true 0 (m * up e * 1 + 0 * 1 * down e) h in omega arith
minus_some (fin false m e) h z = let k = ltb-true (m * up e * 1) (0 * 1 * down e) h in omega arith

module _ (x : Float) (h : lt x f0 ≡ true) where
  pub minus_number : T (not (is_nan x))
  minus_number = number x (no_nan_l x f0 (lt→le x f0 (as_T _ h)))

  minus_not_zero : eq x f0 ≡ false
  minus_not_zero = go (eq x f0) refl
    where
      go : (b : Bool) → eq x f0 ≡ b → b ≡ false
      go true e = absurd (true≢false (sym h ∙ not_lt_from_le x f0 (ge_from_eq x f0 (as_T _ e))))
      go false e = refl

  module _ (f : T (fits binary32 x)) where
    magnitude_set : to_bits binary32 x ≡ 2147483648 + to_bits binary32 (magnitude_of x)
    magnitude_set = let l = to_bits-lt binary32 x f in let s = minus_set x h in let e = pattern_magnitude x f in omega arith

    magnitude_some : 0 < to_bits binary32 (magnitude_of x)
    magnitude_some = go (dec_le 1 (to_bits binary32 (magnitude_of x)))
      where
        go : Dec (1 ≤ to_bits binary32 (magnitude_of x)) → 0 < to_bits binary32 (magnitude_of x)
        go (yes l) = l
        go (no n) =
            let z : to_bits binary32 x % 2147483648 ≡ 0 = omega (arith, n, pattern_magnitude x f) in
            let e : f0 ≡ magnitude_of x = ap (of_bits binary32) (sym z) ∙ magnitude_back x f in
            absurd (minus_some x h (ap digits (sym e) ∙ zero-digits))

    pub minus_least : 2147483649 ≤ to_bits binary32 x
    minus_least = omega (arith, magnitude_set, magnitude_some)

    pub last_pattern : T (not (nan_bits binary32 (to_bits binary32 x - 2147483648 - 1)))
    last_pattern = number_pattern (to_bits binary32 x - 2147483648 - 1) (omega (arith, magnitude_set, magnitude_below x f minus_number, pattern_magnitude x f))

    pub above_minus : neg (of_bits binary32 (to_bits binary32 x - 2147483648 - 1)) ≡ above_of x
    unfolding above_of
    above_minus = let e : to_bits binary32 x - 2147483648 - 1 ≡ to_bits binary32 (magnitude_of x) - 1 = omega (arith, magnitude_set) in rw (minus_not_zero, h, e)

-- ---- zero, and what is none of these
pub above_zero : (x : Float) → eq x f0 ≡ true → of_bits binary32 1 ≡ above_of x
unfolding above_of
above_zero x h = rw h

pub above_nan : (x : Float) → lt f0 x ≡ false → lt x f0 ≡ false → eq x f0 ≡ false → div binary32 (of_bits binary32 0) (of_bits binary32 0) ≡ above_of x
above_nan x a b c = none ∙ sym (ap above_of (is_none x a b c) ∙ of_nan)
  where
    of_nan : above_of nan ≡ nan
    of_nan = unfold above_of magnitude_of eq lt of_bits to_bits in refl

    is_none : (y : Float) → lt f0 y ≡ false → lt y f0 ≡ false → eq y f0 ≡ false → y ≡ nan
    is_none y p q r = go (is_nan y) refl
      where
        go : (n : Bool) → is_nan y ≡ n → y ≡ nan
        go true e = only_nan y e
        go false e = absurd (true≢false (sym (is_true _ (le_antisym y f0 (le_from_not_lt f0 y zero_number e p) (le_from_not_lt y f0 e zero_number q))) ∙ r))

pub below_is : (x y : Float) → y ≡ above_of (neg x) → neg y ≡ below_of x
unfolding below_of
below_is x y e = ap neg e
