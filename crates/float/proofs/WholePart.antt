-- The whole part of a float toward zero, from its pattern. Assumes nothing.
use Prim.Native.Nat.{ℕ, zero, suc, ◌+◌, ◌-◌, ◌*◌, ◌/◌, ◌%◌, ◌^◌, ◌≤◌, ◌<◌, min}
use native.Mathlib.Nat.{le_trans, le_of_eq, lt_of_lt_of_le, lt_of_not-le, one-mul, mul_assoc, mul-le-mul_right, div-lt_iff_lt-mul, le-div_iff_mul-le}
use native.Mathlib.Decide.{dec_le}
use native.Mathlib.Omega.{arith}
use mathlib.Core.Path.{◌≡◌, refl, sym, ap, ◌∙◌, subst}
use mathlib.Core.Bool.{true, false, true≢false}
use lib.Dec.{T}
use lib.IntN.{ℤ, pos, negsuc, neg_ℤ, ◌-ℤ◌, +ℤ_idl}
use lib.Signed.{mag}
use lib.Pow.{pow-add, pow_pos, pow_mono, shl_lt}
use lib.Ieee.{Float, nan, inf, fin, binary32, up, down, is_nan, ne, to_bits, of_bits, to_unsigned, to_signed, fits}
use lib.Ieee.Exact.{HasValue}
use lib.Ieee.Fits.{down_pos}
use lib.Ieee.Nearest.{div_same}
use mir.Syntax.{w64}
use mir.Val.{SFits, to_z}
use mir.Facts.{to_z_pos}
use Rattle.float.specs.Number.{magnitude_of, whole_of}
use Rattle.float.proofs.Fields.{value_at, value_below}
use Rattle.float.proofs.Patterns.{is_number}
use Rattle.float.proofs.Signs.{plus_bits, minus_bits}

-- ---- without the sign
unsigned_of : (x : Float) (a c : ℕ) → 0 < c → HasValue x false a c → to_unsigned 64 x ≡ min (a / c) (2 ^ 64 - 1)
unfolding to_unsigned
unsigned_of nan a c p v = absurd v
unsigned_of (inf s) a c p v = absurd v
unsigned_of (fin true m e) a c p v = absurd (true≢false v.0)
unsigned_of (fin false m e) a c p v = ap (λ (q : ℕ). min q (2 ^ 64 - 1)) (div_same (m * up e) (down e) a c (down_pos e) p v.1)

none : (q : ℕ) → q < 1 → min q (2 ^ 64 - 1) ≡ 0
none q h = omega arith

past : (q : ℕ) → 2 ^ 64 ≤ q → min q (2 ^ 64 - 1) ≡ 18446744073709551615
past q h = omega arith

within : (q : ℕ) → q < 2 ^ 64 → min q (2 ^ 64 - 1) ≡ q
within q h = omega arith

-- below 1
pub part_low : (a : ℕ) → a / 8388608 < 127 → 0 ≡ to_unsigned 64 (of_bits binary32 a)
part_low a h = sym (go (dec_le 8388608 a))
  where
    small : (q k : ℕ) → q < 2 ^ 24 → k ≤ 125 → q * 2 ^ k / 2 ^ 149 < 1
    small q k l m = (div-lt_iff_lt-mul (pow_pos 149)).1 (lt_of_lt_of_le (shl_lt 24 k l) (le_trans (pow_mono {i = 24 + k} {j = 149} (omega arith)) (le_of_eq (sym (one-mul (2 ^ 149))))))

    go : Dec (8388608 ≤ a) → to_unsigned 64 (of_bits binary32 a) ≡ 0
    go (yes l) = unsigned_of (of_bits binary32 a) _ (2 ^ 149) (pow_pos 149) (value_at a l (omega arith)) ∙ none _ (small (8388608 + a % 8388608) (a / 8388608 - 1) (omega arith) (omega arith))
    go (no f) = let l = lt_of_not-le f in unsigned_of (of_bits binary32 a) _ (2 ^ 149) (pow_pos 149) (value_below a l) ∙ none _ (small a 0 (omega arith) (omega arith))

-- from 2 ^ 64 on
at_top : 18446744073709551615 ≡ to_unsigned 64 (of_bits binary32 2139095040)
unfolding of_bits to_unsigned
at_top = refl

pub part_high : (a : ℕ) → a ≤ 2139095040 → 190 < a / 8388608 → 18446744073709551615 ≡ to_unsigned 64 (of_bits binary32 a)
part_high a h l = go (dec_le 2139095040 a)
  where
    large : (q k : ℕ) → 2 ^ 23 ≤ q → 190 ≤ k → 2 ^ 64 ≤ q * 2 ^ k / 2 ^ 149
    large q k m n = (le-div_iff_mul-le (pow_pos 149)).1 (le_trans (le_of_eq (sym (pow-add 2 64 149))) (le_trans (pow_mono {i = 213} {j = 23 + k} (omega arith)) (le_trans (le_of_eq (pow-add 2 23 k)) (mul-le-mul_right (2 ^ k) m))))

    go : Dec (2139095040 ≤ a) → 18446744073709551615 ≡ to_unsigned 64 (of_bits binary32 a)
    go (yes m) = let e : a ≡ 2139095040 = omega arith in at_top ∙ ap (λ (b : ℕ). to_unsigned 64 (of_bits binary32 b)) (sym e)
    go (no f) =
        let m = lt_of_not-le f in
        sym (unsigned_of (of_bits binary32 a) _ (2 ^ 149) (pow_pos 149) (value_at a (omega arith) m) ∙ past _ (large (8388608 + a % 8388608) (a / 8388608 - 1) (omega arith) (omega arith)))

-- between: the digits at the top of 64 places, moved down
moved : (q f : ℕ) → 1 ≤ f → f ≤ 190 → q * 2 ^ (f - 1) / 2 ^ 149 ≡ q * 2 ^ 40 / 2 ^ (190 - f)
moved q f l h =
    div_same (q * 2 ^ (f - 1)) (2 ^ 149) (q * 2 ^ 40) (2 ^ (190 - f)) (pow_pos 149) (pow_pos (190 - f))
    (mul_assoc q (2 ^ (f - 1)) (2 ^ (190 - f))
    ∙ ap (λ (x : ℕ). q * x) (sym (pow-add 2 (f - 1) (190 - f)) ∙ ap (λ (k : ℕ). 2 ^ k) same ∙ pow-add 2 40 149)
    ∙ sym (mul_assoc q (2 ^ 40) (2 ^ 149)))
  where
    same : f - 1 + (190 - f) ≡ 40 + 149
    same = omega arith

pub part_mid : (a : ℕ) → 127 ≤ a / 8388608 → a / 8388608 ≤ 190 → (8388608 + a % 8388608) * 1099511627776 / 2 ^ (190 - a / 8388608) ≡ to_unsigned 64 (of_bits binary32 a)
part_mid a l h =
    let q = 8388608 + a % 8388608 in
    let f = a / 8388608 in
    sym (unsigned_of (of_bits binary32 a) _ (2 ^ 149) (pow_pos 149) (value_at a (omega arith) (omega arith)) ∙ ap (λ (x : ℕ). min x (2 ^ 64 - 1)) (moved q f (omega arith) h) ∙ within _ (under q (190 - f) (omega arith)))
  where
    under : (q k : ℕ) → q < 2 ^ 24 → q * 2 ^ 40 / 2 ^ k < 2 ^ 64
    under q k m = (div-lt_iff_lt-mul (pow_pos k)).1 (lt_of_lt_of_le (shl_lt 24 40 m) (wide (2 ^ k) (pow_pos k)))
      where
        wide : (x : ℕ) → 0 < x → 2 ^ 64 ≤ 2 ^ 64 * x
        wide x p = omega arith

-- ---- with the sign
no_nan : {A : Type 0} → ne nan nan ≡ false → A
unfolding is_nan
no_nan h = absurd (is_number nan h)

pub whole_nan : (x : Float) → x ≡ nan → whole_of x ≡ pos 0
unfolding to_signed
whole_nan x e = ap whole_of e

capped : (q : ℕ) → min q (2 ^ 64 - 1) < 2 ^ 63 → min q (2 ^ 64 - 1) ≡ min q (2 ^ 63 - 1)
capped q h = omega arith

capped_end : (q : ℕ) → 2 ^ 63 ≤ min q (2 ^ 64 - 1) → 9223372036854775807 ≡ min q (2 ^ 63 - 1)
capped_end q h = omega arith

capped_minus : (q : ℕ) → min q (2 ^ 64 - 1) < 2 ^ 63 → min q (2 ^ 64 - 1) ≡ min q (2 ^ 63)
capped_minus q h = omega arith

capped_last : (q : ℕ) → 2 ^ 63 ≤ min q (2 ^ 64 - 1) → 9223372036854775808 ≡ min q (2 ^ 63)
capped_last q h = omega arith

no_plus : (a : ℕ) → a < 2147483648 → 2147483648 ≤ a → ⊥
no_plus a h l = omega arith

pub whole_plus : (x : Float) → ne x x ≡ false → to_bits binary32 x < 2147483648 → to_unsigned 64 (magnitude_of x) < 2 ^ 63 → pos (to_unsigned 64 (magnitude_of x)) ≡ whole_of x
unfolding to_unsigned to_signed magnitude_of to_bits
whole_plus nan h b l = no_nan h
whole_plus (inf true) h b l = absurd (omega arith)
whole_plus (inf false) h b l = absurd (omega arith)
whole_plus (fin true m e) h b l = absurd (no_plus _ b (minus_bits m e))
whole_plus (fin false m e) h b l = ap pos (capped (m * up e / down e) l)

pub whole_last : (x : Float) → ne x x ≡ false → to_bits binary32 x < 2147483648 → 2 ^ 63 ≤ to_unsigned 64 (magnitude_of x) → pos 9223372036854775807 ≡ whole_of x
unfolding to_unsigned to_signed magnitude_of to_bits
whole_last nan h b l = no_nan h
whole_last (inf true) h b l = absurd (omega arith)
whole_last (inf false) h b l = refl
whole_last (fin true m e) h b l = absurd (no_plus _ b (minus_bits m e))
whole_last (fin false m e) h b l = ap pos (capped_end (m * up e / down e) l)

pub whole_minus : (x : Float) → ne x x ≡ false → T (fits binary32 x) → 2147483648 ≤ to_bits binary32 x → to_unsigned 64 (magnitude_of x) < 2 ^ 63 → neg_ℤ (pos (to_unsigned 64 (magnitude_of x))) ≡ whole_of x
unfolding to_unsigned to_signed magnitude_of to_bits
whole_minus nan h f b l = no_nan h
whole_minus (inf true) h f b l = absurd (omega arith)
whole_minus (inf false) h f b l = absurd (omega arith)
whole_minus (fin true m e) h f b l = ap (λ (n : ℕ). neg_ℤ (pos n)) (capped_minus (m * up e / down e) l)
whole_minus (fin false m e) h f b l = absurd (no_plus _ (plus_bits m e f) b)

pub whole_first : (x : Float) → ne x x ≡ false → T (fits binary32 x) → 2147483648 ≤ to_bits binary32 x → 2 ^ 63 ≤ to_unsigned 64 (magnitude_of x) → negsuc 9223372036854775807 ≡ whole_of x
unfolding to_unsigned to_signed magnitude_of to_bits
whole_first nan h f b l = no_nan h
whole_first (inf true) h f b l = refl
whole_first (inf false) h f b l = absurd (omega arith)
whole_first (fin true m e) h f b l = ap (λ (n : ℕ). neg_ℤ (pos n)) (capped_last (m * up e / down e) l)
whole_first (fin false m e) h f b l = absurd (no_plus _ (plus_bits m e f) b)

-- ---- as an i64 has it
pub minus_is : (n : ℕ) → n < 2 ^ 63 → pos 0 -ℤ to_z w64 n ≡ neg_ℤ (pos n)
minus_is n h = ap (λ (z : ℤ). pos 0 -ℤ z) (to_z_pos w64 h) ∙ +ℤ_idl (neg_ℤ (pos n))

mag_minus : (n : ℕ) → n < 2 ^ 63 → mag (neg_ℤ (pos n)) < 2 ^ 63
mag_minus zero h = h
mag_minus (suc n) h = omega arith

pub minus_fits : (n : ℕ) → n < 2 ^ 63 → SFits w64 (pos 0 -ℤ to_z w64 n)
minus_fits n h = record { sfits = subst (λ (z : ℤ). mag z < 2 ^ 63) (sym (minus_is n h)) (mag_minus n h) }
