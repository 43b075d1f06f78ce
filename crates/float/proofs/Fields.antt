-- The f32 patterns above zero: which number of units of 2 ^ -149 each stands for. Assumes nothing.
use mathlib.Core.Path.{◌≡◌, refl, sym, ap, ◌∙◌, subst}
use Prim.Native.Nat.{ℕ, suc, ◌+◌, ◌-◌, ◌*◌, ◌/◌, ◌%◌, ◌^◌, ◌≤◌, ◌<◌}
use native.Mathlib.Nat.{not-le_of_lt}
use native.Mathlib.Omega.{arith}
use mathlib.Core.Bool.{Bool, false, cond}
use lib.Dec.{T, leb, eqb, leb→le, eqb→eq, not_T}
use lib.Ieee.{Float, nan, inf, binary32, odd, of_fields, of_bits}
use lib.Ieee.Bits.{is_false, cond_no}
use lib.Ieee.Exact.{HasValue, odd_sign}

pub of_bits_is : (b : ℕ) → of_bits binary32 b ≡ of_fields binary32 (leb 2147483648 b) (b % 2147483648 / 8388608) (b % 8388608)
unfolding of_bits
of_bits_is b = refl

under_ones : (s : Bool) (x t : ℕ) → suc x < 255 → of_fields binary32 s (suc x) t ≡ odd 24 s (8388608 + t) x 149
unfolding of_fields
under_ones s x t h = cond_no (eqb (suc x) 255) (cond (eqb t 0) (inf s) nan) (odd 24 s (8388608 + t) x 149) (not_T (eqb (suc x) 255) (λ (u : T (eqb (suc x) 255)). differ (eqb→eq (suc x) 255 u)))
  where
    differ : suc x ≡ 255 → ⊥
    differ e = omega arith

sign_clear : (b : ℕ) → b < 2147483648 → leb 2147483648 b ≡ false
sign_clear b h = is_false (leb 2147483648 b) (not_T (leb 2147483648 b) (λ (u : T (leb 2147483648 b)). not-le_of_lt h (leb→le 2147483648 b u)))

-- the exponent's field is x + 1 and the digits are t: 8388608 + t times 2 ^ x
pub normal : (b x t : ℕ) → b ≡ suc x * 8388608 + t → t < 8388608 → suc x < 255 → of_bits binary32 b ≡ odd 24 false (8388608 + t) x 149
normal b x t e l h =
    let small : b < 2147483648 = omega arith in
    let ef : b % 2147483648 / 8388608 ≡ suc x = omega arith in
    let et : b % 8388608 ≡ t = omega arith in
    of_bits_is b
    ∙ ap (λ (s : Bool). of_fields binary32 s (b % 2147483648 / 8388608) (b % 8388608)) (sign_clear b small)
    ∙ ap (λ (f : ℕ). of_fields binary32 false f (b % 8388608)) ef
    ∙ ap (λ (d : ℕ). of_fields binary32 false (suc x) d) et
    ∙ under_ones false x t h

-- the exponent's field is 0: as many units
pub subnormal : (b : ℕ) → b < 8388608 → of_bits binary32 b ≡ odd 24 false b 0 149
unfolding of_fields
subnormal b h =
    let small : b < 2147483648 = omega arith in
    let ef : b % 2147483648 / 8388608 ≡ 0 = omega arith in
    let et : b % 8388608 ≡ b = omega arith in
    of_bits_is b
    ∙ ap (λ (s : Bool). of_fields binary32 s (b % 2147483648 / 8388608) (b % 8388608)) (sign_clear b small)
    ∙ ap (λ (f : ℕ). of_fields binary32 false f (b % 8388608)) ef
    ∙ ap (λ (d : ℕ). of_fields binary32 false 0 d) et

-- ---- the same as values
pub value_at : (b : ℕ) → 8388608 ≤ b → b < 2139095040 → HasValue (of_bits binary32 b) false ((8388608 + b % 8388608) * 2 ^ (b / 8388608 - 1)) (2 ^ 149)
value_at b l h =
    subst (λ (y : Float). HasValue y false ((8388608 + b % 8388608) * 2 ^ (b / 8388608 - 1)) (2 ^ 149)) (sym (normal b (b / 8388608 - 1) (b % 8388608) (omega arith) (omega arith) (omega arith)))
    (odd_sign 24 false (8388608 + b % 8388608) (b / 8388608 - 1) 149)

pub value_below : (b : ℕ) → b < 8388608 → HasValue (of_bits binary32 b) false (b * 2 ^ 0) (2 ^ 149)
value_below b h = subst (λ (y : Float). HasValue y false (b * 2 ^ 0) (2 ^ 149)) (sym (subnormal b h)) (odd_sign 24 false b 0 149)
