-- `root_of` of each kind of f32, by its pattern. Assumes nothing.
use mathlib.Core.Path.{◌≡◌, refl, sym, ap, ◌∙◌, subst}
use Prim.Native.Nat.{ℕ, zero, suc, ◌+◌, ◌-◌, ◌*◌, ◌/◌, ◌%◌, ◌^◌, ◌≤◌, ◌<◌}
use native.Mathlib.Nat.{lt_irrefl, zero-mul, mul-one, mul-pos}
use native.Mathlib.Omega.{arith}
use mathlib.Core.Bool.{Bool, true, false, not, cond, true≢false}
use lib.Dec.{T, leb, eqb, le→leb, T_not}
use lib.IntN.{ℤ}
use lib.Pow.{pow_pos}
use lib.Ieee.{Float, nan, inf, fin, up, down, binary32, odd, of_fields, of_bits, is_nan}
use lib.Ieee.Bits.{is_true, nan_bits_is, nan_bits_above}
use lib.Ieee.Exact.{HasValue, odd_sign}
use lib.Ieee.Fits.{down_pos}
use Rattle.float.proofs.Fields.{of_bits_is, normal, subnormal}
use Rattle.float.proofs.Units.{count_of}
use Rattle.sqrt.specs.Root.{nearest_root, root_of}

-- ---- by the value

no_zero : (e : ℤ) (a : ℕ) → 0 < a → zero * up e * 2 ^ 149 ≡ a * down e → ⊥
no_zero e a p h = lt_irrefl 0 (subst (λ (n : ℕ). 0 < n) (sym h ∙ ap (λ (n : ℕ). n * 2 ^ 149) (zero-mul (up e)) ∙ zero-mul (2 ^ 149)) (mul-pos p (down_pos e)))

pub above_zero : (x : Float) (a : ℕ) → HasValue x false a (2 ^ 149) → 0 < a → root_of x ≡ nearest_root (a * 2 ^ 149)
unfolding root_of
above_zero nan a h p = absurd h
above_zero (inf t) a h p = absurd h
above_zero (fin t zero e) a h p = absurd (no_zero e a p h.1)
above_zero (fin true (suc m) e) a h p = absurd (true≢false h.0)
above_zero (fin false (suc m) e) a h p = ap (λ (n : ℕ). nearest_root (n * 2 ^ 149)) (count_of (fin false (suc m) e) false a h)

pub below-zero : (x : Float) (a : ℕ) → HasValue x true a (2 ^ 149) → 0 < a → root_of x ≡ nan
unfolding root_of
below-zero nan a h p = absurd h
below-zero (inf t) a h p = absurd h
below-zero (fin t zero e) a h p = absurd (no_zero e a p h.1)
below-zero (fin true (suc m) e) a h p = refl
below-zero (fin false (suc m) e) a h p = absurd (true≢false (sym h.0))

-- ---- by the pattern

pub at_subnormal : (b : ℕ) → 0 < b → b < 8388608 → root_of (of_bits binary32 b) ≡ nearest_root (b * 2 ^ 149)
at_subnormal b p h =
    above_zero (of_bits binary32 b) (b * 2 ^ 0) (subst (λ (x : Float). HasValue x false (b * 2 ^ 0) (2 ^ 149)) (sym (subnormal b h)) (odd_sign 24 false b 0 149)) (mul-pos p (pow_pos 0))
    ∙ ap (λ (n : ℕ). nearest_root (n * 2 ^ 149)) (mul-one b)

pub at_normal : (b : ℕ) → 8388608 ≤ b → b < 2139095040 → root_of (of_bits binary32 b) ≡ nearest_root ((b % 8388608 + 8388608) * 2 ^ (b / 8388608 - 1) * 2 ^ 149)
at_normal b l h =
    let x = b / 8388608 - 1 in
    let t = b % 8388608 in
    let e : 8388608 + t ≡ t + 8388608 = omega arith in
    above_zero (of_bits binary32 b) ((t + 8388608) * 2 ^ x)
    (subst (λ (y : Float). HasValue y false ((t + 8388608) * 2 ^ x) (2 ^ 149)) (sym (normal b x t (omega arith) (omega arith) (omega arith) ∙ ap (λ (n : ℕ). odd 24 false n x 149) e)) (odd_sign 24 false (t + 8388608) x 149))
    (mul-pos {m = t + 8388608} (omega arith) (pow_pos x))

empty : (z : Bool) → root_of (cond z (inf true) nan) ≡ nan
unfolding root_of
empty true = refl
empty false = refl

fields_below : (f t : ℕ) → 0 < f + t → root_of (of_fields binary32 true f t) ≡ nan
unfolding of_fields
fields_below zero t p = below-zero (odd 24 true t 0 149) (t * 2 ^ 0) (odd_sign 24 true t 0 149) (mul-pos {m = t} (omega arith) (pow_pos 0))
fields_below (suc x) t p = top (eqb (suc x) 255) (eqb t 0)
  where
    top : (y z : Bool) → root_of (cond y (cond z (inf true) nan) (odd 24 true (8388608 + t) x 149)) ≡ nan
    top true z = empty z
    top false z = below-zero (odd 24 true (8388608 + t) x 149) ((8388608 + t) * 2 ^ x) (odd_sign 24 true (8388608 + t) x 149) (mul-pos {m = 8388608 + t} (omega arith) (pow_pos x))

pub at_below : (b : ℕ) → 2147483648 < b → b < 4294967296 → root_of (of_bits binary32 b) ≡ nan
at_below b l h =
    ap root_of (of_bits_is b ∙ ap (λ (s : Bool). of_fields binary32 s (b % 2147483648 / 8388608) (b % 8388608)) (is_true (leb 2147483648 b) (le→leb 2147483648 b (omega arith))))
    ∙ fields_below (b % 2147483648 / 8388608) (b % 8388608) (omega arith)

at_infinity : root_of (of_bits binary32 2139095040) ≡ of_bits binary32 2139095040
unfolding root_of of_bits
at_infinity = refl

at_minus_zero : root_of (of_bits binary32 2147483648) ≡ of_bits binary32 2147483648
unfolding root_of of_bits
at_minus_zero = refl

pub at_zero : root_of (of_bits binary32 0) ≡ of_bits binary32 0
unfolding root_of of_bits
at_zero = refl

-- from the infinity's pattern up to that of -0 there are these two, and NaNs
pub at_itself : (b : ℕ) → 2139095040 ≤ b → b ≤ 2147483648 → T (not (is_nan (of_bits binary32 b))) → root_of (of_bits binary32 b) ≡ of_bits binary32 b
at_itself b l h n = go (eqb b 2147483648) (lib.Dec.eqb→eq b 2147483648) (eq_no b)
  where
    low : b % 2147483648 ≤ 2139095040
    low = lib.Dec.nltb→le 2139095040 (b % 2147483648) (subst (λ (x : Bool). T (not x)) (sym (nan_bits_is binary32 b) ∙ nan_bits_above binary32 b) n)

    eq_no : (b : ℕ) → T (not (eqb b 2147483648)) → b ≡ 2147483648 → ⊥
    eq_no b t e = T_not (eqb b 2147483648) t (subst (λ (x : ℕ). T (eqb b x)) e (lib.Dec.eqb_refl b))

    go : (y : Bool) → (T y → b ≡ 2147483648) → (T (not y) → b ≡ 2147483648 → ⊥) → root_of (of_bits binary32 b) ≡ of_bits binary32 b
    go true e f = let e1 : b ≡ 2147483648 = e tt in subst (λ (x : ℕ). root_of (of_bits binary32 x) ≡ of_bits binary32 x) (sym e1) at_minus_zero
    go false e f =
        let ne : b ≡ 2147483648 → ⊥ = f tt in
        let lo : b % 2147483648 ≤ 2139095040 = low in
        let e1 : b ≡ 2139095040 = omega arith in
        subst (λ (x : ℕ). root_of (of_bits binary32 x) ≡ of_bits binary32 x) (sym e1) at_infinity
