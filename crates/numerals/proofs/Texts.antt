-- Digits written are digits, and the number that they make; so what is written in plain decimal has the form of a token. Assumes nothing.
use mathlib.Core.Path.{◌≡◌, refl, sym, ap, ◌∙◌}
use mathlib.Core.Bool.{Bool, true, false}
use mathlib.Core.List.{List, ◌∷◌, ◌++◌}
use Prim.Native.Nat.{ℕ, zero, suc, ◌+◌, ◌-◌, ◌*◌, ◌/◌, ◌%◌, ◌^◌, ◌≤◌, ◌<◌, max}
use native.Mathlib.Nat.{le-max_left, le-max_right, max-le, le_of_eq, lt_of_lt_of_le, mul-one, zero-mul, zero-add, add-zero, mod-one, mul_assoc, add-mul, pow-succ', mod-eq_of_lt, div-add-mod', div-lt_iff_lt-mul}
use native.Mathlib.Omega.{arith}
use lib.Arith.{mod-mul}
use lib.Dec.{lit<}
use lib.ListN.{length, length-append}
use lib.Pow.{pow-add}
use Rattle.decimal.specs.Decimal.{are_digits, value_after}
use Rattle.decimal.specs.Form.{Sign, none, minus, point, Form}
use Rattle.decimal.proofs.Parts.{value_split, digit}
use Rattle.decimal.proofs.Scale.{ten_le}
use Rattle.numerals.specs.Written.{digits, plain_decimal, signed}
use Rattle.numerals.proofs.Put.{digits-length}
use Rattle.numerals.proofs.Tens.{ten_pos}

-- ---- a row of digits
pub digits_are : (w x : ℕ) → are_digits (digits w x) ≡ true
unfolding digits are_digits
digits_are zero x = refl
digits_are (suc w) x = rw (digit (48 + x / 10 ^ w % 10) (omega arith) (omega arith)) (digits_are w x)

number : (d x w : ℕ) → (d * 10 + (48 + x / 10 ^ w % 10 - 48)) * 10 ^ w + x % 10 ^ w ≡ d * 10 ^ suc w + x % 10 ^ suc w
number d x w =
    let c = x / 10 ^ w % 10 in
    let a : x % (10 * 10 ^ w) ≡ c * 10 ^ w + x % 10 ^ w = mod-mul x (lit< tt) (ten_pos w) in
    let p : 10 ^ suc w ≡ 10 * 10 ^ w = pow-succ' 10 w in
    let b : x % 10 ^ suc w ≡ c * 10 ^ w + x % 10 ^ w = ap (λ (y : ℕ). x % y) p ∙ a in
    let e : d * 10 ^ suc w ≡ d * 10 * 10 ^ w = ap (λ (y : ℕ). d * y) p ∙ sym (mul_assoc d 10 (10 ^ w)) in
    let f : (d * 10 + c) * 10 ^ w ≡ d * 10 * 10 ^ w + c * 10 ^ w = add-mul (d * 10) c (10 ^ w) in
    let g : 48 + c - 48 ≡ c = omega arith in
    ap (λ (y : ℕ). (d * 10 + y) * 10 ^ w + x % 10 ^ w) g ∙ omega arith

pub digits_value : (w x v : ℕ) → value_after v (digits w x) ≡ v * 10 ^ w + x % 10 ^ w
unfolding digits value_after
digits_value zero x v = sym (ap (λ (y : ℕ). v * 1 + y) (mod-one x) ∙ add-zero (v * 1) ∙ mul-one v)
digits_value (suc w) x v = digits_value w x (v * 10 + (48 + x / 10 ^ w % 10 - 48)) ∙ number v x w

-- ---- the whole part, the point, the places
module _ (w d k : ℕ) (l : d / 10 ^ k < 10 ^ w) where
  abbrev whole : List ℕ
  whole = digits w (d / 10 ^ k)

  both_value : d ≡ value_after 0 (whole ++ digits k d)
  both_value =
      let is : value_after 0 whole ≡ d / 10 ^ k = digits_value w (d / 10 ^ k) 0 ∙ ap (λ (y : ℕ). y + d / 10 ^ k % 10 ^ w) (zero-mul (10 ^ w)) ∙ zero-add _ ∙ mod-eq_of_lt l in
      sym (value_split 0 whole (digits k d) ∙ digits_value k d (value_after 0 whole) ∙ ap (λ (y : ℕ). y * 10 ^ k + d % 10 ^ k) is ∙ div-add-mod' d (10 ^ k))

  form_of : {sign : List ℕ} {neg : Bool} → Sign sign neg → 0 < w + k → w + k ≤ 18 → Form (sign ++ (whole ++ (46 ∷ digits k d))) neg d k
  form_of {sign} {neg} g a b =
      let n : length (whole ++ digits k d) ≡ w + k = length-append whole (digits k d) ∙ ap (λ (y : ℕ). y + length (digits k d)) (digits-length w (d / 10 ^ k)) ∙ ap (λ (y : ℕ). w + y) (digits-length k d) in
      record {
        sign = sign;
        before = whole;
        rest = 46 ∷ digits k d;
        after = digits k d;
        signed = g;
        ends = point;
        is = refl;
        digits = (digits_are w (d / 10 ^ k), digits_are k d);
        some = omega arith;
        few = omega arith;
        value = both_value;
        places = sym (digits-length k d);
      }

-- what is written of d / 10 ^ k has the form of a token, and writes that number
pub plain_form : (s : Bool) (d k : ℕ) → d < 10 ^ 9 → k ≤ 15 → Form (signed s (plain_decimal d k)) s d k
unfolding plain_decimal signed
plain_form s d k l h = go (max 1 (9 - k)) (le-max_left 1 (9 - k)) (le-max_right 1 (9 - k)) (max-le (one k h) (rest k))
  where
    one : (x : ℕ) → x ≤ 15 → 1 ≤ 18 - x
    one x g = omega arith

    rest : (x : ℕ) → 9 - x ≤ 18 - x
    rest x = omega arith

    by_sign : (s : Bool) (w : ℕ) → d / 10 ^ k < 10 ^ w → 0 < w + k → w + k ≤ 18 → Form (signed s (digits w (d / 10 ^ k) ++ (46 ∷ digits k d))) s d k
    by_sign true w e a b = form_of w d k e minus a b
    by_sign false w e a b = form_of w d k e none a b

    go : (w : ℕ) → 1 ≤ w → 9 - k ≤ w → w ≤ 18 - k → Form (signed s (digits w (d / 10 ^ k) ++ (46 ∷ digits k d))) s d k
    go w a b c =
        let e : d < 10 ^ (w + k) = lt_of_lt_of_le l (ten_le 9 (w + k) (omega arith)) in
        by_sign s w ((div-lt_iff_lt-mul (ten_pos k)).1 (lt_of_lt_of_le e (le_of_eq (pow-add 10 w k)))) (omega arith) (omega arith)
