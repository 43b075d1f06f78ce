-- The test whether half the root of s is above t is a comparison of s with the last f32 at which it fails (`cutoff_of_last`), or with the f32 next below zero (`cutoff_below_zero`); and there is one cutoff only (`cutoff_unique`). Assumes nothing.
use mathlib.Core.Path.{◌≡◌, refl, sym, ap, ◌∙◌, subst}
use Prim.Native.Nat.{ℕ, zero, suc, ◌+◌, ◌*◌, ◌^◌, ◌≤◌, ◌<◌, zero-le}
use native.Mathlib.Nat.{le_refl, le_trans, le_of_eq, le_of_lt, lt_of_not-le, mul-pos, mul-le-mul_right, one-mul, zero-mul, zero-lt-suc}
use native.Mathlib.Decide.{dec_le}
use native.Mathlib.Omega.{arith}
use mathlib.Core.Bool.{Bool, true, false, not}
use lib.Dec.{T, T_not, not_T}
use lib.IntN.{ℤ, pos, negsuc}
use lib.Ieee.{Float, nan, inf, fin, up, down, binary32, fits, is_nan, round, to_bits, of_bits, le, lt, eq, div}
use lib.Ieee.Bits.{of_bits-to_bits, to_bits-lt, of_bits-fits, is_true, is_false}
use lib.Ieee.Fits.{down_pos, up_pos}
use borrow.Author.Tests.{lt-ltb, le-ltb}
use Rattle.float.proofs.Order as floats
use Rattle.float.proofs.Order.{lt-le_trans, not_lt_from_le, le_from_not_lt, le_antisym, lt_irrefl}
use Rattle.float.proofs.Finite.{round-zero}
use Rattle.sqrt.specs.Root.{root_of}
use Rattle.sqrt.specs.Cutoff.{halved, above, IsCutoff}
use Rattle.float.specs.Units.{plain}
use Rattle.float.proofs.Units.{parts}
use Rattle.float.proofs.UnitsOrder.{same_value}
use Rattle.float.proofs.PatternOrder.{at, number_at, pattern_le, pattern_lt, plain_pattern}
use Rattle.sqrt.proofs.Above.{clear, clear_at, above_mono}

-- ---- what a call of the test told

pub it_held : {r a : Bool} → r ≡ a → r ≡ true → T a
it_held e h = subst T (sym h ∙ e) tt

pub it_failed : {r a : Bool} → r ≡ a → r ≡ false → T (not a)
it_failed e h = subst (λ (x : Bool). T (not x)) (sym h ∙ e) tt

-- ---- the roots of what is not clear

lt_nan : (t : Float) → lt t nan ≡ false
unfolding lt
lt_nan nan = refl
lt_nan (inf s) = refl
lt_nan (fin s m e) = refl

lt_minus_infinity : (r : Float) → lt r (inf true) ≡ false
unfolding lt
lt_minus_infinity nan = refl
lt_minus_infinity (inf true) = refl
lt_minus_infinity (inf false) = refl
lt_minus_infinity (fin s m e) = refl

root_nan : halved (root_of nan) ≡ nan
unfolding root_of div of_bits
root_nan = refl

root_minus_infinity : halved (root_of (inf true)) ≡ nan
unfolding root_of div of_bits
root_minus_infinity = refl

root_minus : (m : ℕ) (e : ℤ) → halved (root_of (fin true (suc m) e)) ≡ nan
unfolding root_of div of_bits
root_minus m e = refl

root_minus_zero : (e : ℤ) → halved (root_of (fin true zero e)) ≡ fin true 0 (pos 0)
unfolding root_of div of_bits
root_minus_zero e = round-zero true (zero * up e * 1) (2 * down e) (ap (λ (n : ℕ). n * 1) (zero-mul (up e))) (mul-pos (omega arith) (down_pos e))

root_zero : halved (root_of (at 0)) ≡ at 0
unfolding root_of div of_bits round
root_zero = refl

-- at +0 the test is that t is below zero
pub above-zero_is : (t : Float) → above t (at 0) ≡ lt t (at 0)
above-zero_is t = ap (lt t) root_zero

-- both zeros are equal
zeros_le : T (le (fin true 0 (pos 0)) (at 0)) × T (le (at 0) (fin true 0 (pos 0)))
unfolding le lt eq of_bits
zeros_le = (tt, tt)

-- what has its sign set is no more than what has it clear
minus_le : (m : ℕ) (e : ℤ) (b : ℕ) → b ≤ 2139095040 → T (le (fin true m e) (at b))
unfolding is_nan lt of_bits
minus_le m e b l = floats.le_trans (fin true m e) (at 0) (at b) (le_from_not_lt (at 0) (fin true m e) refl refl refl) (pattern_le 0 b zero-le l)

-- the pattern of what is clear
clear_pattern : (s : Float) → T (fits binary32 s) → T (clear s) → to_bits binary32 s ≤ 2139095040
unfolding to_bits
clear_pattern nan f p = absurd p
clear_pattern (inf true) f p = absurd p
clear_pattern (inf false) f p = le_refl 2139095040
clear_pattern (fin true m e) f p = absurd p
clear_pattern (fin false m e) f p =
    let s = fin false m e in
    le_of_lt (plain_pattern (to_bits binary32 s) (to_bits-lt binary32 s f) (subst (λ (x : Float). T (plain x)) (sym (of_bits-to_bits binary32 s f)) tt))

-- so a claim on every f32 is one on these patterns, and on the others
by_pattern : (P : Float → Type 0) → ((k : ℕ) → k ≤ 2139095040 → P (at k)) → (s : Float) → T (fits binary32 s) → T (clear s) → P s
by_pattern P h s f p = subst P (of_bits-to_bits binary32 s f) (h (to_bits binary32 s) (clear_pattern s f p))

-- ---- the cutoff, where b is the last pattern at which the test fails

module _ (t : Float) (b : ℕ) (bl : b ≤ 2139095040) (fails : T (not (above t (at b)))) (holds : suc b ≤ 2139095040 → T (above t (at (suc b)))) where
  cuts_at : (k : ℕ) → k ≤ 2139095040 → above t (at k) ≡ lt (at b) (at k)
  cuts_at k kl = go (dec_le k b)
    where
      go : Dec (k ≤ b) → above t (at k) ≡ lt (at b) (at k)
      go (yes g) = is_false (above t (at k)) (not_T (above t (at k)) (λ (h : T (above t (at k))). T_not (above t (at b)) fails (above_mono t k b g bl h))) ∙ sym (not_lt_from_le (at b) (at k) (pattern_le k b g bl))
      go (no f) =
          let g : suc b ≤ k = lt_of_not-le f in
          is_true (above t (at k)) (above_mono t (suc b) k g kl (holds (le_trans g kl))) ∙ sym (is_true (lt (at b) (at k)) (pattern_lt b k g kl))

  -- were the test to hold of -0, it would of +0 and so of b
  minus_zero_fails : (e : ℤ) → above t (fin true zero e) ≡ false
  minus_zero_fails e =
      is_false (above t (fin true zero e)) (not_T (above t (fin true zero e)) (λ (h : T (above t (fin true zero e))). T_not (above t (at b)) fails
      (above_mono t 0 b zero-le bl (subst (λ (x : Float). T (lt t x)) (sym root_zero) (lt-le_trans t (fin true 0 (pos 0)) (at 0) (subst (λ (x : Float). T (lt t x)) (root_minus_zero e) h) zeros_le.0)))))

  cuts : (s : Float) → T (fits binary32 s) → above t s ≡ lt (at b) s
  cuts nan f = ap (lt t) root_nan ∙ lt_nan t ∙ sym (lt_nan (at b))
  cuts (inf true) f = ap (lt t) root_minus_infinity ∙ lt_nan t ∙ sym (lt_minus_infinity (at b))
  cuts (inf false) f = by_pattern (λ (s : Float). above t s ≡ lt (at b) s) cuts_at (inf false) f tt
  cuts (fin true zero e) f = minus_zero_fails e ∙ sym (not_lt_from_le (at b) (fin true zero e) (minus_le zero e b bl))
  cuts (fin true (suc m) e) f = ap (lt t) (root_minus m e) ∙ lt_nan t ∙ sym (not_lt_from_le (at b) (fin true (suc m) e) (minus_le (suc m) e b bl))
  cuts (fin false m e) f = by_pattern (λ (s : Float). above t s ≡ lt (at b) s) cuts_at (fin false m e) f tt

not_minus_zero : (x : Float) → T (clear x) → x ≡ at 2147483648 → ⊥
unfolding of_bits
not_minus_zero x p e = subst (λ (y : Float). T (clear y)) e p

pub cutoff_of_last : (t : Float) (b : ℕ) → b ≤ 2139095040 → T (not (above t (at b))) → (suc b ≤ 2139095040 → T (above t (at (suc b)))) → IsCutoff t (at b)
cutoff_of_last t b bl fails holds = record { cuts = cuts t b bl fails holds; holds = of_bits-fits binary32 b; number = number_at b bl; unsigned = not_minus_zero (at b) (clear_at b bl) }

-- ---- the cutoff of a t below zero: the f32 next below zero, -2 ^ -149

abbrev least : Float
least = fin true 1 (negsuc 148)

least_is : at 2147483649 ≡ least
unfolding of_bits
least_is = refl

-- an f32 below zero is at most that
least_most : (m : ℕ) (e : ℤ) → T (fits binary32 (fin true (suc m) e)) → lt least (fin true (suc m) e) ≡ false
unfolding lt
least_most m e f = le-ltb (suc m * up e * 2 ^ 149) (1 * 1 * down e) (le_trans (le_of_eq (once (down e))) (le_trans (parts true m e f).1 (le_trans (le_of_eq (sym (one-mul (2 ^ 149)))) (mul-le-mul_right (2 ^ 149) (mul-pos (zero-lt-suc m) (up_pos e))))))
  where
    once : (d : ℕ) → 1 * 1 * d ≡ d
    once d = omega arith

least_under : (s : Float) → T (clear s) → lt least s ≡ true
unfolding lt
least_under nan p = absurd p
least_under (inf true) p = absurd p
least_under (inf false) p = refl
least_under (fin true m e) p = absurd p
least_under (fin false m e) p = lt-ltb 0 (1 * 1 * down e + m * up e * 2 ^ 149) (some (down e) (m * up e * 2 ^ 149) (down_pos e))
  where
    some : (a b : ℕ) → 0 < a → 0 < 1 * 1 * a + b
    some a b h = omega arith

least_minus_zero : (e : ℤ) → lt least (fin true zero e) ≡ true
unfolding lt
least_minus_zero e = lt-ltb (0 * up e * 2 ^ 149) (1 * 1 * down e) (some (up e) (down e) (down_pos e))
  where
    some : (a b : ℕ) → 0 < b → 0 * a * 2 ^ 149 < 1 * 1 * b
    some a b h = simp (zero-mul) (omega arith)

module _ (t : Float) (below : T (lt t (at 0))) where
  holds_at : (k : ℕ) → k ≤ 2139095040 → above t (at k) ≡ true
  holds_at k l = is_true (above t (at k)) (above_mono t 0 k zero-le l (subst (λ (x : Float). T (lt t x)) (sym root_zero) below))

  cuts_below : (s : Float) → T (fits binary32 s) → above t s ≡ lt least s
  cuts_below nan f = ap (lt t) root_nan ∙ lt_nan t ∙ sym (lt_nan least)
  cuts_below (inf true) f = ap (lt t) root_minus_infinity ∙ lt_nan t ∙ sym (lt_minus_infinity least)
  cuts_below (inf false) f = by_pattern (λ (s : Float). above t s ≡ true) holds_at (inf false) f tt ∙ sym (least_under (inf false) tt)
  cuts_below (fin true zero e) f = ap (lt t) (root_minus_zero e) ∙ is_true (lt t (fin true 0 (pos 0))) (lt-le_trans t (at 0) (fin true 0 (pos 0)) below zeros_le.1) ∙ sym (least_minus_zero e)
  cuts_below (fin true (suc m) e) f = ap (lt t) (root_minus m e) ∙ lt_nan t ∙ sym (least_most m e f)
  cuts_below (fin false m e) f = by_pattern (λ (s : Float). above t s ≡ true) holds_at (fin false m e) f tt ∙ sym (least_under (fin false m e) tt)

least_not_zero : least ≡ at 2147483648 → ⊥
unfolding of_bits
least_not_zero e = let z : ◌≡◌ {A = ℕ} 0 1 = cc in omega arith

pub cutoff_below_zero : (t : Float) → T (lt t (at 0)) → IsCutoff t (at 2147483649)
unfolding is_nan
cutoff_below_zero t h =
    subst (λ (r : Float). IsCutoff t r) (sym least_is)
    (record { cuts = cuts_below t h; holds = subst (λ (r : Float). T (fits binary32 r)) least_is (of_bits-fits binary32 2147483649); number = refl; unsigned = least_not_zero })

-- ---- one cutoff only: of two, neither is above the other, and but for the zeros an f32 is known by its value

pub cutoff_unique : (t q r : Float) → IsCutoff t q → IsCutoff t r → q ≡ r
cutoff_unique t q r h k =
    same_value q r h.holds k.holds h.unsigned k.unsigned
    (le_antisym q r (le_from_not_lt r q k.number h.number (sym (k.cuts q h.holds) ∙ h.cuts q h.holds ∙ lt_irrefl q)) (le_from_not_lt q r h.number k.number (sym (h.cuts r k.holds) ∙ k.cuts r k.holds ∙ lt_irrefl r)))
