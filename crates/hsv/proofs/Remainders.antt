-- The remainder of an f32 by a small whole number, from its digits. Assumes nothing.
use mathlib.Core.Path.{◌≡◌, refl, sym, ap, ◌∙◌, subst}
use mathlib.Core.Bool.{Bool, true, false, true≢false}
use Prim.Native.Nat.{ℕ, zero, suc, ◌+◌, ◌-◌, ◌*◌, ◌/◌, ◌%◌, ◌^◌, ◌≤◌, ◌<◌}
use native.Mathlib.Nat.{le_trans, lt_of_le_of_lt, lt_of_not-le, le_of_eq, zero-lt-suc, zero-mul, one-mul, mul-one, mul-pos, mul-le-mul, mul_assoc, mul_right_comm, mul-div_cancel, mul-mod_left, mod-le, mod-eq_of_lt, eq_of_mul-eq-mul_right}
use native.Mathlib.Decide.{dec_le}
use native.Mathlib.Omega.{arith}
use lib.Arith.{mod-mul}
use lib.Dec.{T, ltb→lt, lit<, lit≤, eqb, eqb→eq, not_T}
use lib.IntN.{ℤ}
use lib.Pow.{pow-add, pow_pos, pow_mono, shl_exact}
use lib.Ieee.{Float, nan, inf, fin, binary32, up, down, round, div, rem, neg, lt, le, fits, of_bits, to_bits, of_int}
use lib.Ieee.Back.{round_whole}
use lib.Ieee.Bits.{is_true, cond_no}
use lib.Ieee.Exact.{HasValue, round_exact}
use lib.Ieee.Fits.{up_pos, down_pos, round-fits}
use lib.Ieee.Scale.{round_same}
use Rattle.std.proofs.lemmas.Nat.{mul-mod_first, mul-mod_second}
use Rattle.float.specs.F32.{◌⊘◌, f0, f1, f6}
use Rattle.float.specs.Number.{magnitude_of, count_of}
use Rattle.float.proofs.Fields.{value_at}
use Rattle.float.proofs.Order.{lt-le_trans}
use Rattle.float.proofs.PatternOrder.{pattern_lt, pattern_under}
use Rattle.float.proofs.SignedRound.{round-neg}
use Rattle.float.proofs.Spans.{quotient_is}
use Rattle.float.proofs.Signs.{fits_signed, plus_bits, pattern_magnitude, magnitude_back}
use Rattle.float.proofs.Units.{sized, shape, parts, few_units, same_units}
use Rattle.float.proofs.Wholes.{count_mono}
use Rattle.hsv.specs.Circle.{turn}

-- ---- whole numbers
-- a factor of both goes through
mod_times : (a b c : ℕ) → 0 < b → 0 < c → a * c % (b * c) ≡ a % b * c
mod_times a b c B C =
    mod-mul (a * c) B C
    ∙ ap (λ (x : ℕ). x % b * c + a * c % c) (mul-div_cancel a C)
    ∙ ap (λ (x : ℕ). a % b * c + x) (mul-mod_left a c)
    ∙ none (a % b * c)
  where
    none : (x : ℕ) → x + 0 ≡ x
    none x = omega arith

-- one doubling more
pub doubled_more : (r i y p : ℕ) → p ≡ r * 2 ^ i % y → 2 * p % y ≡ r * 2 ^ (i + 1) % y
doubled_more r i y p e =
    ap (λ (x : ℕ). 2 * x % y) e ∙ mul-mod_second 2 (r * 2 ^ i) y
    ∙ ap (λ (x : ℕ). x % y) (twice r (2 ^ i) ∙ ap (λ (x : ℕ). r * x) (sym (pow-add 2 i 1)))
  where
    twice : (a b : ℕ) → 2 * (a * b) ≡ a * (b * 2)
    twice a b = omega arith

-- ---- whole numbers as f32
pub whole_value : (n : ℕ) → n ≤ 2 ^ 24 → HasValue (count_of n) false n 1
unfolding of_int
whole_value n h = round_whole binary32 false n h

pub six_is : count_of 6 ≡ f6
unfolding of_int round of_bits
six_is = refl

pub turn_is : count_of 360 ≡ turn
unfolding of_int round of_bits
turn_is = refl

one_is : f1 ≡ count_of 1
unfolding of_int round of_bits
one_is = refl

-- no zero has another value
no_zero : (c : ℕ) (d : ℤ) → 0 < c → zero * up d * 1 ≡ c * down d → ⊥
no_zero c d C e = none (mul-pos C (down_pos d)) (sym e ∙ ap (λ (x : ℕ). x * 1) (zero-mul (up d)))
  where
    none : {x : ℕ} → 0 < x → x ≡ 0 → ⊥
    none h e = omega arith

quotient_of : (x z : Float) (a c : ℕ) → 0 < c → HasValue x false a 1 → HasValue z false c 1 → x ⊘ z ≡ round binary32 false a c
quotient_of nan z a c C v w = absurd v
quotient_of (inf s) z a c C v w = absurd v
quotient_of (fin true m e) z a c C v w = absurd (true≢false v.0)
quotient_of (fin false m e) nan a c C v w = absurd w
quotient_of (fin false m e) (inf t) a c C v w = absurd w
quotient_of (fin false m e) (fin true n d) a c C v w = absurd (true≢false w.0)
quotient_of (fin false m e) (fin false zero d) a c C v w = absurd (no_zero c d C w.1)
quotient_of (fin false m e) (fin false (suc n) d) a c C v w =
    let g : suc n * up d ≡ c * down d = sym (mul-one (suc n * up d)) ∙ w.1 in
    let f : m * up e ≡ a * down e = sym (mul-one (m * up e)) ∙ v.1 in
    quotient_is false m n e d
    ∙ round_same binary32 false (m * up e * down d) (suc n * up d * down e) a c
    (subst (λ (x : ℕ). 0 < x * down e) (sym g) (mul-pos (mul-pos C (down_pos d)) (down_pos e))) C
    (rw (f, g) (turned a (down e) (down d) c))
  where
    turned : (a e d c : ℕ) → a * e * d * c ≡ a * (c * d * e)
    turned a e d c = omega arith

pub quotient_at : (a c : ℕ) → a ≤ 2 ^ 24 → 0 < c → c ≤ 2 ^ 24 → count_of a ⊘ count_of c ≡ round binary32 false a c
quotient_at a c h C k = quotient_of (count_of a) (count_of c) a c C (whole_value a h) (whole_value c k)

-- ---- the remainder of q / c by y is that of q by y * c, over c
left_of : (m n e d q c y : ℕ) → 0 < n * e → 0 < y * c → 0 < e * d → 0 < c → m * c ≡ q * e → n ≡ y * d → m * d % (n * e) * c ≡ q % (y * c) * (e * d)
left_of m n e d q c y N B D C f g = sym (mod_times (m * d) (n * e) c N C) ∙ rw (above, beneath) (mod_times q (y * c) (e * d) B D)
  where
    above : m * d * c ≡ q * (e * d)
    above = mul_right_comm m d c ∙ ap (λ (x : ℕ). x * d) f ∙ mul_assoc q e d

    beneath : n * e * c ≡ y * c * (e * d)
    beneath = ap (λ (x : ℕ). x * e * c) g ∙ turned y d e c
      where
        turned : (y d e c : ℕ) → y * d * e * c ≡ y * c * (e * d)
        turned y d e c = omega arith

rem_is : (s : Bool) (m : ℕ) (e : ℤ) (t : Bool) (n : ℕ) (d : ℤ) → rem binary32 (fin s m e) (fin t (suc n) d) ≡ round binary32 s (m * up e * down d % (suc n * up d * down e)) (down e * down d)
unfolding rem
rem_is s m e t n d = cond_no (eqb (suc n) 0) _ _ (not_T (eqb (suc n) 0) (λ (u : T (eqb (suc n) 0)). some n (eqb→eq (suc n) 0 u)))
  where
    some : (n : ℕ) → suc n ≡ 0 → ⊥
    some n h = omega arith

rem_of : (s : Bool) (m : ℕ) (e : ℤ) (z : Float) (y q c : ℕ) → 0 < y → 0 < c → m * up e * c ≡ q * down e → HasValue z false y 1 → rem binary32 (fin s m e) z ≡ round binary32 s (q % (y * c)) c
rem_of s m e nan y q c Y C f w = absurd w
rem_of s m e (inf t) y q c Y C f w = absurd w
rem_of s m e (fin t zero d) y q c Y C f w = absurd (no_zero y d Y w.1)
rem_of s m e (fin t (suc n) d) y q c Y C f w =
    let g : suc n * up d ≡ y * down d = sym (mul-one (suc n * up d)) ∙ w.1 in
    let both = mul-pos (down_pos e) (down_pos d) in
    rem_is s m e t n d
    ∙ round_same binary32 s (m * up e * down d % (suc n * up d * down e)) (down e * down d) (q % (y * c)) c both C
    (left_of (m * up e) (suc n * up d) (down e) (down d) q c y (mul-pos (mul-pos (zero-lt-suc n) (up_pos d)) (down_pos e)) (mul-pos Y C) both C f g)

rem_at : (x z : Float) (y q c : ℕ) → 0 < y → 0 < c → HasValue x false q c → HasValue z false y 1 → rem binary32 x z ≡ round binary32 false (q % (y * c)) c
rem_at nan z y q c Y C v w = absurd v
rem_at (inf s) z y q c Y C v w = absurd v
rem_at (fin true m e) z y q c Y C v w = absurd (true≢false v.0)
rem_at (fin false m e) z y q c Y C v w = rem_of false m e z y q c Y C v.1 w

-- ---- a number from 1 up to the infinity, by its pattern
-- its value as another fraction
fewer : (x : Float) (a l q c : ℕ) → 0 < l → q * l ≡ a * c → HasValue x false a l → HasValue x false q c
fewer nan a l q c L f v = v
fewer (inf t) a l q c L f v = v
fewer (fin t m e) a l q c L f v = (
  v.0,
  eq_of_mul-eq-mul_right l L (m * up e * c) (q * down e)
      (mul_right_comm (m * up e) c l ∙ ap (λ (x : ℕ). x * c) v.1 ∙ mul_right_comm a (down e) c ∙ ap (λ (x : ℕ). x * down e) (sym f) ∙ mul_right_comm q l (down e)),
)

-- the parts of 1 that its digits count
pub record Parts (k y parts : ℕ) : Type 0 where
  pub is : parts ≡ 2 ^ k
  pub few : parts ≤ 2 ^ 24
  pub product : y * parts < 2 ^ 32

pub parts_of : (a y : ℕ) → y < 512 → 1065353216 ≤ a → Parts (150 - a / 8388608) y (1 * 2 ^ (150 - a / 8388608) % 4294967296)
parts_of a y few low =
    let k = 150 - a / 8388608 in
    let e : 1 * 2 ^ k % 4294967296 ≡ 2 ^ k = shl_exact 1 k 32 (lit< tt) (omega arith) ∙ one-mul (2 ^ k) in
    let h : 2 ^ k ≤ 2 ^ 23 = pow_mono {i = k} {j = 23} (omega arith) in
    let most : y ≤ 511 = omega arith in
    record {
      is = e;
      few = le_trans (le_of_eq e) (le_trans h (lit≤ tt));
      product = subst (λ (x : ℕ). y * x < 2 ^ 32) (sym e) (lt_of_le_of_lt (mul-le-mul most h) (lit< tt));
    }

module _ (a y : ℕ) (Y : 0 < y) (few : y < 512) (low : 1065353216 ≤ a) (high : a < 2139095040) where
  abbrev field : ℕ
  field = a / 8388608

  abbrev digits : ℕ
  digits = 8388608 + a % 8388608

  digits_few : digits < 2 ^ 24
  digits_few = omega arith

  value : HasValue (of_bits binary32 a) false (digits * 2 ^ (field - 1)) (2 ^ 149)
  value = value_at a (omega arith) high

  pub left_parts : (parts rest : ℕ) → field < 150 → parts ≡ 2 ^ (150 - field) → parts ≤ 2 ^ 24 → rest ≡ digits % (y * parts) → count_of rest ⊘ count_of parts ≡ rem binary32 (of_bits binary32 a) (count_of y)
  left_parts parts rest h e l f =
      let P : 0 < parts = subst (λ (x : ℕ). 0 < x) (sym e) (pow_pos (150 - field)) in
      let r : rest ≤ 2 ^ 24 = le_trans (le_of_eq f) (le_trans (mod-le digits (y * parts)) (omega arith)) in
      quotient_at rest parts r P l
      ∙ ap (λ (x : ℕ). round binary32 false x parts) f
      ∙ sym (rem_at (of_bits binary32 a) (count_of y) y digits parts Y P (fewer (of_bits binary32 a) _ (2 ^ 149) digits parts (pow_pos 149) scaled value) (whole_value y (omega arith)))
    where
      scaled : digits * 2 ^ 149 ≡ digits * 2 ^ (field - 1) * parts
      scaled = ap (λ (x : ℕ). digits * x) (ap (λ (k : ℕ). 2 ^ k) all ∙ pow-add 2 (field - 1) (150 - field) ∙ ap (λ (x : ℕ). 2 ^ (field - 1) * x) (sym e)) ∙ sym (mul_assoc digits (2 ^ (field - 1)) parts)
        where
          all : 149 ≡ field - 1 + (150 - field)
          all = omega arith

  pub left_whole : (rest : ℕ) → 150 ≤ field → rest ≡ digits % y * 2 ^ (field - 150) % y → count_of rest ≡ rem binary32 (of_bits binary32 a) (count_of y)
  unfolding of_int
  left_whole rest h f =
      let w : rest ≡ digits * 2 ^ (field - 150) % (y * 1) = f ∙ mul-mod_first digits (2 ^ (field - 150)) y ∙ ap (λ (x : ℕ). digits * 2 ^ (field - 150) % x) (sym (mul-one y)) in
      ap (λ (x : ℕ). round binary32 false x 1) w
      ∙ sym (rem_at (of_bits binary32 a) (count_of y) y (digits * 2 ^ (field - 150)) 1 Y (lit< tt) (fewer (of_bits binary32 a) _ (2 ^ 149) (digits * 2 ^ (field - 150)) 1 (pow_pos 149) scaled value) (whole_value y (omega arith)))
    where
      scaled : digits * 2 ^ (field - 150) * 2 ^ 149 ≡ digits * 2 ^ (field - 1) * 1
      scaled = mul_assoc digits (2 ^ (field - 150)) (2 ^ 149) ∙ ap (λ (x : ℕ). digits * x) (sym (pow-add 2 (field - 150) 149) ∙ ap (λ (k : ℕ). 2 ^ k) all) ∙ sym (mul-one (digits * 2 ^ (field - 1)))
        where
          all : field - 150 + 149 ≡ field - 1
          all = omega arith

-- ---- a number nearer to 0 than y is left as it is
few_of : (s : Bool) (m : ℕ) (e : ℤ) (u : ℕ) → T (fits binary32 (fin s m e)) → m * up e * 2 ^ 149 ≡ u * down e → u < 2 ^ 277
few_of s zero e u t f = few_units (zero * up e) (down e) u 128 f (lt_of_le_of_lt (le_of_eq (zero-mul (up e))) (mul-pos (pow_pos 128) (down_pos e)))
few_of s (suc m) e u t f = few_units (suc m * up e) (down e) u 128 f (parts s m e t).2

-- a number that fits, as a fraction of its own, is not rounded
own : (s : Bool) (m : ℕ) (e : ℤ) (a c : ℕ) → T (fits binary32 (fin s m e)) → 0 < c → m * up e * c ≡ a * down e → round binary32 s a c ≡ fin s m e
own s m e a c t C f =
    let z = sized s m e t in
    let u = z.0 in
    let h = shape z.1 in
    let same : round binary32 s a c ≡ round binary32 s u (2 ^ 149) = round_same binary32 s a c u (2 ^ 149) C (pow_pos 149) (eq_of_mul-eq-mul_right (down e) (down_pos e) (a * 2 ^ 149) (u * c) (turned a (down e) c u (m * up e) (2 ^ 149) f z.1.is.1)) in
    let v : HasValue (round binary32 s u (2 ^ 149)) s u (2 ^ 149) = round_exact binary32 s u (2 ^ 149) h.m h.g (pow_pos 149) h.small (subst (λ (x : ℕ). x < 2 ^ 277) h.is (few_of s m e u t z.1.is.1)) (ap (λ (x : ℕ). x * 2 ^ 149) h.is) in
    same ∙ same_units (record { one = round-fits binary32 s u (2 ^ 149); is = v }) z.1 refl
  where
    turned : (a e c u x p : ℕ) → x * c ≡ a * e → x * p ≡ u * e → a * p * e ≡ u * c * e
    turned a e c u x p f g =
        mul_right_comm a p e ∙ ap (λ (z : ℕ). z * p) (sym f) ∙ mul_right_comm x c p ∙ ap (λ (z : ℕ). z * c) g ∙ mul_right_comm u e c

kept_of : (s : Bool) (m : ℕ) (e : ℤ) (z : Float) (y : ℕ) → T (fits binary32 (fin s m e)) → 0 < y → HasValue z false y 1 → lt (fin false m e) z ≡ true → fin s m e ≡ rem binary32 (fin s m e) z
unfolding lt
kept_of s m e nan y t Y w h = absurd w
kept_of s m e (inf r) y t Y w h = absurd w
kept_of s m e (fin true n d) y t Y w h = absurd (true≢false w.0)
kept_of s m e (fin false zero d) y t Y w h = absurd (no_zero y d Y w.1)
kept_of s m e (fin false (suc n) d) y t Y w h =
    let a = m * up e * down d in
    let l : a < suc n * up d * down e = ltb→lt a (suc n * up d * down e) (subst T (sym h) tt) in
    sym (rem_is s m e false n d ∙ ap (λ (x : ℕ). round binary32 s x (down e * down d)) (mod-eq_of_lt l) ∙ own s m e a (down e * down d) t (mul-pos (down_pos e) (down_pos d)) (turned (m * up e) (down e) (down d)))
  where
    turned : (a e d : ℕ) → a * (e * d) ≡ a * d * e
    turned a e d = omega arith

pub kept : (x z : Float) (y : ℕ) → T (fits binary32 x) → 0 < y → HasValue z false y 1 → lt (magnitude_of x) z ≡ true → x ≡ rem binary32 x z
unfolding magnitude_of lt
kept nan z y t Y w h = absurd (true≢false (sym h))
kept (inf s) nan y t Y w h = absurd w
kept (inf s) (inf r) y t Y w h = absurd w
kept (inf s) (fin r n d) y t Y w h = absurd (true≢false (sym h))
kept (fin s m e) z y t Y w h = kept_of s m e z y t Y w h

-- ---- the sign, and what has no remainder
pub no_number : f0 ⊘ f0 ≡ nan
unfolding div of_bits
no_number = refl

pub nothing_left : (x z : Float) → T (fits binary32 x) → 2139095040 ≤ to_bits binary32 x % 2147483648 → nan ≡ rem binary32 x z
unfolding rem magnitude_of to_bits
nothing_left nan z t h = refl
nothing_left (inf s) z t h = refl
nothing_left (fin s m e) z t h = absurd (under (pattern_magnitude (fin s m e) t) (pattern_under (fin false m e) (fits_signed s false m e t) tt) h)
  where
    under : {p q : ℕ} → p ≡ q → p < 2139095040 → 2139095040 ≤ q → ⊥
    under {p} {q} e l h = omega arith

minus_rem : (m : ℕ) (e : ℤ) (z : Float) (y : ℕ) → 0 < y → HasValue z false y 1 → neg (rem binary32 (fin false m e) z) ≡ rem binary32 (fin true m e) z
minus_rem m e nan y Y w = absurd w
minus_rem m e (inf t) y Y w = absurd w
minus_rem m e (fin t zero d) y Y w = absurd (no_zero y d Y w.1)
minus_rem m e (fin t (suc n) d) y Y w = ap neg (rem_is false m e t n d) ∙ sym (rem_is true m e t n d ∙ round-neg binary32 (m * up e * down d % (suc n * up d * down e)) (down e * down d))

pub minus_left : (x z : Float) (y : ℕ) → T (fits binary32 x) → 0 < y → HasValue z false y 1 → 2147483648 ≤ to_bits binary32 x → neg (rem binary32 (magnitude_of x) z) ≡ rem binary32 x z
unfolding rem magnitude_of neg to_bits
minus_left nan z y t Y w h = refl
minus_left (inf s) z y t Y w h = refl
minus_left (fin true m e) z y t Y w h = minus_rem m e z y Y w
minus_left (fin false m e) z y t Y w h = absurd (none (plus_bits m e t) h)
  where
    none : {p : ℕ} → p < 2147483648 → 2147483648 ≤ p → ⊥
    none l h = omega arith

-- ---- what is not nearer to 0 than y is at least 1, whose pattern is 1065353216
pub from_one : (x : Float) (y : ℕ) → T (fits binary32 x) → 0 < y → lt (magnitude_of x) (count_of y) ≡ false → 1065353216 ≤ to_bits binary32 x % 2147483648
from_one x y t Y h = go (dec_le 1065353216 (to_bits binary32 x % 2147483648))
  where
    go : Dec (1065353216 ≤ to_bits binary32 x % 2147483648) → 1065353216 ≤ to_bits binary32 x % 2147483648
    go (yes l) = l
    go (no f) =
        let l = pattern_lt (to_bits binary32 x % 2147483648) 1065353216 (lt_of_not-le f) (lit≤ tt) in
        let k = lt-le_trans (magnitude_of x) f1 (count_of y) (subst (λ (w : Float). T (lt w f1)) (magnitude_back x t) l) (subst (λ (w : Float). T (le w (count_of y))) (sym one_is) (count_mono 1 y Y)) in
        absurd (true≢false (sym (is_true (lt (magnitude_of x) (count_of y)) k) ∙ h))
