-- A float below 0, above 0, neither: what is written of it. Assumes nothing.
use mathlib.Core.Path.{◌≡◌, refl, sym, ap, ◌∙◌, subst}
use mathlib.Core.Bool.{true, false, not}
use mathlib.Core.List.{[], ◌∷◌}
use Prim.Native.Nat.{ℕ, zero, suc, ◌+◌, ◌*◌, ◌^◌, ◌≤◌, ◌<◌}
use native.Mathlib.Nat.{zero-mul, mul-pos, zero-lt-suc}
use native.Mathlib.Omega.{arith}
use lib.Dec.{T, lt→ltb, eqb→eq}
use lib.IntN.{ℤ, pos}
use lib.Ieee.{Float, nan, inf, fin, binary32, up, down, lt, ne, neg, is_nan, fits, to_bits, of_bits}
use lib.Ieee.Fits.{up_pos}
use lib.Ieee.Compare.{differs_from_itself, nan_differs}
use lib.Ieee.Positive.{above}
use borrow.Author.Tests.{ltb-true, ltb-false}
use Rattle.numerals.specs.Written.{signed, text_of}
use Rattle.numerals.proofs.Trip.{power_one}
use Rattle.numerals.specs.inner.Steps.{with_sign}

differ : {X : Type 0} → true ≡ false → X
differ e = let z : ◌≡◌ {A = ℕ} 0 1 = cc in absurd (none z)
  where
    none : ◌≡◌ {A = ℕ} 0 1 → ⊥
    none z = omega arith

-- ---- numbers
none_below : (x d : ℕ) → x * 1 < 0 * d → ⊥
none_below x d h = let e = zero-mul d in omega arith

pub some_up : (m : ℕ) (e : ℤ) → 0 < suc m * up e
some_up m e = mul-pos (zero-lt-suc m) (up_pos e)

zero-up : (e : ℤ) (d : ℕ) → 0 < 0 * up e * 1 + 0 * d → ⊥
zero-up e d h = let a = zero-mul (up e) in let b = zero-mul d in omega arith

pub zero_over : (e : ℤ) (d : ℕ) → 0 * d < 0 * up e * 1 → ⊥
zero_over e d h = let a = zero-mul (up e) in omega arith

up_none : (x d : ℕ) → 0 < x → x * 1 + 0 * d ≤ 0 → ⊥
up_none x d l h = omega arith

pub up_over : (x d : ℕ) → 0 < x → x * 1 ≤ 0 * d → ⊥
up_over x d l h = let e = zero-mul d in omega arith

-- ---- a NaN
pub nan_text : (x : Float) → ne x x ≡ true → text_of x ≡ []
unfolding text_of
nan_text x h = ap text_of (differs_from_itself x (subst T (sym h) tt))

pub no_nan : (x : Float) → ne x x ≡ false → T (not (is_nan x))
unfolding is_nan
no_nan nan h = differ (sym nan_differs ∙ h)
no_nan (inf s) h = tt
no_nan (fin s m e) h = tt

-- ---- below 0 and above 0
pub below-zero : (x : Float) → lt x (of_bits binary32 0) ≡ true → T (above (neg x))
unfolding lt of_bits neg
below-zero nan h = differ (sym h)
below-zero (inf true) h = tt
below-zero (inf false) h = differ (sym h)
below-zero (fin false m e) h = absurd (none_below (m * up e) (down e) (ltb-true _ _ h))
below-zero (fin true zero e) h = absurd (zero-up e (down e) (ltb-true _ _ h))
below-zero (fin true (suc m) e) h = lt→ltb 0 (suc m) (zero-lt-suc m)

pub neg-neg : (x : Float) → text_of (with_sign true (neg x)) ≡ text_of x
unfolding neg
neg-neg nan = refl
neg-neg (inf true) = refl
neg-neg (inf false) = refl
neg-neg (fin true m e) = refl
neg-neg (fin false m e) = refl

pub above_zero : (x : Float) → lt (of_bits binary32 0) x ≡ true → T (above x)
unfolding lt of_bits
above_zero nan h = differ (sym h)
above_zero (inf true) h = differ (sym h)
above_zero (inf false) h = tt
above_zero (fin true m e) h = differ (sym h)
above_zero (fin false zero e) h = absurd (zero_over e (down e) (ltb-true _ _ h))
above_zero (fin false (suc m) e) h = lt→ltb 0 (suc m) (zero-lt-suc m)

-- ---- neither
is_zero : (x : Float) → ne x x ≡ false → lt x (of_bits binary32 0) ≡ false → lt (of_bits binary32 0) x ≡ false → fits binary32 x ≡ true → (P : Float → Type 0) → P (fin false 0 (pos 0)) → P (fin true 0 (pos 0)) → P x
unfolding lt of_bits fits
is_zero nan n l h f P p q = differ (sym nan_differs ∙ n)
is_zero (inf true) n l h f P p q = differ l
is_zero (inf false) n l h f P p q = differ h
is_zero (fin true (suc m) e) n l h f P p q = absurd (up_none (suc m * up e) (down e) (some_up m e) (ltb-false _ _ l))
is_zero (fin false (suc m) e) n l h f P p q = absurd (up_over (suc m * up e) (down e) (some_up m e) (ltb-false _ _ h))
is_zero (fin true zero e) n l h f P p q = subst (λ (y : ℤ). P (fin true 0 y)) (sym (power_one e (eqb→eq (up e * down e) 1 (subst T (sym f) tt)))) q
is_zero (fin false zero e) n l h f P p q = subst (λ (y : ℤ). P (fin false 0 y)) (sym (power_one e (eqb→eq (up e * down e) 1 (subst T (sym f) tt)))) p

pub plus_zero : (x : Float) → ne x x ≡ false → lt x (of_bits binary32 0) ≡ false → lt (of_bits binary32 0) x ≡ false → fits binary32 x ≡ true → to_bits binary32 x ≡ 0 → 48 ∷ [] ≡ text_of x
unfolding to_bits text_of signed
plus_zero x n l h f = is_zero x n l h f (λ y. to_bits binary32 y ≡ 0 → 48 ∷ [] ≡ text_of y) (λ e. refl) (λ e. absurd (large e))
  where
    large : ◌≡◌ {A = ℕ} (2 ^ 31) 0 → ⊥
    large e = omega arith

pub minus_zero : (x : Float) → ne x x ≡ false → lt x (of_bits binary32 0) ≡ false → lt (of_bits binary32 0) x ≡ false → fits binary32 x ≡ true → (to_bits binary32 x ≡ 0 → ⊥) → 45 ∷ 48 ∷ [] ≡ text_of x
unfolding to_bits text_of signed
minus_zero x n l h f = is_zero x n l h f (λ y. (to_bits binary32 y ≡ 0 → ⊥) → 45 ∷ 48 ∷ [] ≡ text_of y) (λ e. absurd (e refl)) (λ e. refl)
