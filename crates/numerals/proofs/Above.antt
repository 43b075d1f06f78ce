-- A float above 0: what its bits say of what is written. Assumes nothing.
use mathlib.Core.Path.{◌≡◌, refl, sym, ap, ◌∙◌, subst}
use mathlib.Core.Bool.{Bool, true, false, cond, not, ◌&&◌}
use mathlib.Core.List.{[]}
use Prim.Native.Nat.{ℕ, zero, suc, ◌+◌, ◌-◌, ◌*◌, ◌/◌, ◌%◌, ◌^◌, ◌≤◌, ◌<◌}
use native.Mathlib.Nat.{le_trans, le_of_eq, mul-one, mul_assoc, mul_right_comm, mul-le-mul_right, lt_of_not-le, not-le_of_lt, le_of_mul-le-mul_right, eq_of_mul-eq-mul_right}
use native.Mathlib.Omega.{arith}
use lib.Dec.{T, leb, eqb, leb→le, nleb→lt}
use lib.IntN.{ℤ}
use lib.Pow.{pow-add, pow_pos}
use lib.Ieee.{Float, nan, inf, fin, binary32, up, down, lt, neg, is_nan, fits, to_bits, of_bits}
use lib.Ieee.Fits.{down_pos}
use lib.Ieee.Nearest.{closest_same}
use lib.Ieee.Positive.{above}
use borrow.Author.Tests.{ltb-true, ltb-false, le-leb, lt-leb}
use Rattle.numerals.specs.Written.{signed, nine, places, plain_decimal, in_range, text_of}
use Rattle.numerals.proofs.Ranged.{Ranged, ranged}
use Rattle.numerals.specs.inner.Steps.{with_sign}

-- ---- the text, inside the range and out of it
text_out : (s : Bool) (a : ℕ) (e : ℤ) → in_range (suc a * up e) (down e) ≡ false → text_of (with_sign s (fin false (suc a) e)) ≡ []
unfolding text_of neg
text_out true a e h = rw h
text_out false a e h = rw h

text_in : (s : Bool) (a : ℕ) (e : ℤ) → in_range (suc a * up e) (down e) ≡ true
    → text_of (with_sign s (fin false (suc a) e)) ≡ signed s (nine (suc a * up e) (down e) (places 15 (suc a * up e) (down e) 0))
unfolding text_of neg
text_in true a e h = rw h
text_in false a e h = rw h

and-false : (b : Bool) → b && false ≡ false
and-false true = refl
and-false false = refl

pub low_out : (num den : ℕ) → num * 2 ^ 43 < 8796093 * den → in_range num den ≡ false
unfolding in_range
low_out num den h = ap (λ (b : Bool). b && leb num (1000000 * den)) (lt-leb (8796093 * den) (num * 2 ^ 43) h)

pub high_out : (num den : ℕ) → 1000000 * den < num → in_range num den ≡ false
unfolding in_range
high_out num den h = ap (λ (b : Bool). leb (8796093 * den) (num * 2 ^ 43) && b) (lt-leb num (1000000 * den) h) ∙ and-false (leb (8796093 * den) (num * 2 ^ 43))

pub all_in : (num den : ℕ) → 8796093 * den ≤ num * 2 ^ 43 → num ≤ 1000000 * den → in_range num den ≡ true
unfolding in_range
all_in num den h k = ap (λ (b : Bool). b && leb num (1000000 * den)) (le-leb (8796093 * den) (num * 2 ^ 43) h) ∙ le-leb num (1000000 * den) k

-- ---- an infinity is refused
inf_out : (s t : Bool) → text_of (with_sign s (inf t)) ≡ []
unfolding text_of neg
inf_out true t = refl
inf_out false t = refl

-- ---- the two tests of the code
pub too_low : (y : Float) (s : Bool) → T (above y) → lt y (of_bits binary32 0x358637bd) ≡ true → text_of (with_sign s y) ≡ []
unfolding lt of_bits
too_low nan s a h = absurd a
too_low (inf t) s a h = inf_out s t
too_low (fin true m e) s a h = absurd a
too_low (fin false zero e) s a h = absurd a
too_low (fin false (suc m) e) s a h = text_out s m e (low_out (suc m * up e) (down e) (ltb-true _ _ h))

pub too_high : (y : Float) (s : Bool) → T (above y) → lt (of_bits binary32 0x49742400) y ≡ true → text_of (with_sign s y) ≡ []
unfolding lt of_bits
too_high nan s a h = absurd a
too_high (inf t) s a h = inf_out s t
too_high (fin true m e) s a h = absurd a
too_high (fin false zero e) s a h = absurd a
too_high (fin false (suc m) e) s a h = text_out s m e (high_out (suc m * up e) (down e) (le_trans (ltb-true _ _ h) (le_of_eq (mul-one (suc m * up e)))))

pub above_no_nan : (y : Float) → T (above y) → T (not (is_nan y))
unfolding is_nan
above_no_nan nan a = absurd a
above_no_nan (inf t) a = tt
above_no_nan (fin t m e) a = tt

-- ---- the same fraction is written the same
module _ (num den m d : ℕ) (dp : 0 < den) (ep : 0 < d) (same : num * d ≡ m * den) where
  cross : (t : ℕ) → num * t * d ≡ m * t * den
  cross t = mul_right_comm num t d ∙ ap (λ (x : ℕ). x * t) same ∙ mul_right_comm m den t

  test : (k : ℕ) → leb (10 ^ 8 * den) (num * 10 ^ k) ≡ leb (10 ^ 8 * d) (m * 10 ^ k)
  test k = go (leb (10 ^ 8 * d) (m * 10 ^ k)) (leb→le (10 ^ 8 * d) (m * 10 ^ k)) (nleb→lt (10 ^ 8 * d) (m * 10 ^ k))
    where
      go : (b : Bool) → (T b → 10 ^ 8 * d ≤ m * 10 ^ k) → (T (not b) → m * 10 ^ k < 10 ^ 8 * d) → leb (10 ^ 8 * den) (num * 10 ^ k) ≡ b
      go true f g =
          le-leb (10 ^ 8 * den) (num * 10 ^ k)
          (le_of_mul-le-mul_right {k = d} (le_trans (le_of_eq (mul_right_comm (10 ^ 8) den d)) (le_trans (mul-le-mul_right den (f tt)) (le_of_eq (sym (cross (10 ^ k)))))) ep)
      go false f g =
          lt-leb (10 ^ 8 * den) (num * 10 ^ k)
          (lt_of_not-le (λ (h : 10 ^ 8 * den ≤ num * 10 ^ k). not-le_of_lt (g tt)
          (le_of_mul-le-mul_right {k = den} (le_trans (le_of_eq (mul_right_comm (10 ^ 8) d den)) (le_trans (mul-le-mul_right d h) (le_of_eq (cross (10 ^ k))))) dp)))

  places_same : (f k : ℕ) → places f num den k ≡ places f m d k
  unfolding places
  places_same zero k = refl
  places_same (suc f) k =
      ap (λ (b : Bool). cond b k (places f num den (k + 1))) (test k)
      ∙ ap (λ (x : ℕ). cond (leb (10 ^ 8 * d) (m * 10 ^ k)) k x) (places_same f (k + 1))

  nine_same : nine num den (places 15 num den 0) ≡ nine m d (places 15 m d 0)
  unfolding nine
  nine_same =
      ap (λ (k : ℕ). nine num den k) (places_same 15 0)
      ∙ ap (λ (x : ℕ). cond (eqb x (10 ^ 9)) (plain_decimal (10 ^ 8) (places 15 m d 0 - 1)) (plain_decimal x (places 15 m d 0)))
      (closest_same (num * 10 ^ places 15 m d 0) den (m * 10 ^ places 15 m d 0) d dp ep (cross (10 ^ places 15 m d 0)))

-- ---- what the code takes from the bits b
-- the digits, and how far down they stand
abbrev pub mant : ℕ → ℕ
mant b = b % 8388608 + 8388608

abbrev pub lower : ℕ → ℕ
lower b = 150 - b / 8388608

pub record Found (y : Float) (b : ℕ) : Type 0 where
  pub under : b / 8388608 ≤ 150
  pub low : 4 ≤ lower b
  pub high : lower b ≤ 43
  pub reach : 10 ^ 8 * 2 ^ lower b ≤ mant b * 10 ^ 15
  pub text_is : (s : Bool) → signed s (nine (mant b) (2 ^ lower b) (places 15 (mant b) (2 ^ lower b) 0)) ≡ text_of (with_sign s y)

field_is : (b k m : ℕ) → b ≡ 0 + k * 8388608 + m → 8388608 ≤ m → m < 16777216 → b / 8388608 ≡ k + 1
field_is b k m e l h = omega arith

mant_is : (b k m : ℕ) → b ≡ 0 + k * 8388608 + m → 8388608 ≤ m → m < 16777216 → mant b ≡ m
mant_is b k m e l h = omega arith

lower_is : (b k : ℕ) → b / 8388608 ≡ k + 1 → k ≤ 145 → lower b ≡ 149 - k
lower_is b k e h = omega arith

module _ (a : ℕ) (e : ℤ) (r : Ranged (fin false (suc a) e) false (suc a * up e) (down e)) where
  abbrev b : ℕ
  b = to_bits binary32 (fin false (suc a) e)

  abbrev k : ℕ
  k = r.k

  abbrev m : ℕ
  m = r.m

  -- 2 ^ (149 - k) * 2 ^ k
  whole : 2 ^ (149 - k) * 2 ^ k ≡ 2 ^ 149
  whole = sym (pow-add 2 (149 - k) k) ∙ ap (λ (x : ℕ). 2 ^ x) (join k r.k_hi)
    where
      join : (x : ℕ) → x ≤ 145 → 149 - x + x ≡ 149
      join x h = omega arith

  reach_of : 10 ^ 8 * 2 ^ (149 - k) ≤ m * 10 ^ 15
  reach_of =
      le_of_mul-le-mul_right {k = 2 ^ k}
      (le_trans (le_of_eq (mul_assoc (10 ^ 8) (2 ^ (149 - k)) (2 ^ k) ∙ ap (λ (x : ℕ). 10 ^ 8 * x) whole))
      (le_trans r.enough_of (le_of_eq (mul_right_comm m (2 ^ k) (10 ^ 15))))) (pow_pos k)

  same_of : suc a * up e * 2 ^ (149 - k) ≡ m * down e
  same_of =
      eq_of_mul-eq-mul_right (2 ^ k) (pow_pos k) (suc a * up e * 2 ^ (149 - k)) (m * down e)
      (mul_assoc (suc a * up e) (2 ^ (149 - k)) (2 ^ k) ∙ ap (λ (x : ℕ). suc a * up e * x) whole ∙ r.same ∙ mul_right_comm m (2 ^ k) (down e))

  field : b / 8388608 ≡ k + 1
  field = field_is b k m r.bits r.lo r.hi

  is_m : mant b ≡ m
  is_m = mant_is b k m r.bits r.lo r.hi

  is_low : lower b ≡ 149 - k
  is_low = lower_is b k field r.k_hi

  found_of : in_range (suc a * up e) (down e) ≡ true → Found (fin false (suc a) e) b
  found_of i = record {
    under = le_trans (le_of_eq field) (fit k r.k_hi);
    low = le_trans (four k r.k_hi) (le_of_eq (sym is_low));
    high = le_trans (le_of_eq is_low) (most k r.k_lo);
    reach = subst (λ (x : ℕ). 10 ^ 8 * 2 ^ x ≤ mant b * 10 ^ 15) (sym is_low) (subst (λ (x : ℕ). 10 ^ 8 * 2 ^ (149 - k) ≤ x * 10 ^ 15) (sym is_m) reach_of);
    text_is = λ s.
        ap (λ (x : ℕ). signed s (nine x (2 ^ lower b) (places 15 x (2 ^ lower b) 0))) is_m
        ∙ ap (λ (x : ℕ). signed s (nine m (2 ^ x) (places 15 m (2 ^ x) 0))) is_low
        ∙ ap (signed s) (sym (nine_same (suc a * up e) (down e) m (2 ^ (149 - k)) (down_pos e) (pow_pos (149 - k)) same_of))
        ∙ sym (text_in s a e i);
  }
    where
      fit : (x : ℕ) → x ≤ 145 → x + 1 ≤ 150
      fit x h = omega arith

      four : (x : ℕ) → x ≤ 145 → 4 ≤ 149 - x
      four x h = omega arith

      most : (x : ℕ) → 106 ≤ x → 149 - x ≤ 43
      most x h = omega arith

pub found : (y : Float) → T (above y) → T (fits binary32 y) → lt y (of_bits binary32 0x358637bd) ≡ false → lt (of_bits binary32 0x49742400) y ≡ false → Found y (to_bits binary32 y)
unfolding lt of_bits
found nan a f l h = absurd a
found (inf true) a f l h = absurd a
found (inf false) a f l h = absurd (differ h)
  where
    differ : true ≡ false → ⊥
    differ e = let z : ◌≡◌ {A = ℕ} 0 1 = cc in omega arith
found (fin true m e) a f l h = absurd a
found (fin false zero e) a f l h = absurd a
found (fin false (suc m) e) a f l h =
    let x : 8796093 * down e ≤ suc m * up e * 2 ^ 43 = ltb-false _ _ l in
    let y : suc m * up e ≤ 1000000 * down e = le_trans (le_of_eq (sym (mul-one (suc m * up e)))) (ltb-false _ _ h) in
    found_of m e (ranged false m e f x y) (all_in (suc m * up e) (down e) x y)
