-- Of the patterns from +0 up to the infinity's, a larger one is a larger f32 (`pattern_le`, `pattern_lt`); and these are the patterns of the f32 whose sign is clear. Assumes nothing.
use mathlib.Core.Path.{◌≡◌, refl, sym, ap, ◌∙◌, subst}
use mathlib.Core.Logic.{inl, inr}
use Prim.Native.Nat.{ℕ, zero, suc, ◌+◌, ◌-◌, ◌*◌, ◌/◌, ◌%◌, ◌^◌, ◌≤◌, ◌<◌}
use native.Mathlib.Nat.{le_trans, le_antisymm, le_of_eq, le_of_lt, lt_of_le_of_lt, lt_of_not-le, lt_irrefl, eq-or-lt_of_le, mul_assoc, mul-le-mul_right, mul-le-mul_left, mul-one, pow-succ'}
use native.Mathlib.Decide.{dec_le}
use native.Mathlib.Omega.{arith}
use mathlib.Core.Bool.{Bool, true, false, not, cond, true≢false}
use lib.Dec.{T, leb, eqb, le→leb, not_T}
use lib.Pow.{pow_pos, pow_mono}
use lib.Ieee.{Float, nan, inf, fin, binary32, fits, odd, to_bits, of_fields, of_bits, is_nan, le, lt}
use lib.Ieee.Bits.{of_bits-to_bits, to_bits-lt, to_bits-of_bits, of_bits-fits, is_true}
use lib.Ieee.Exact.{HasValue, odd_sign}
use Rattle.float.specs.Units.{count, plain}
use Rattle.float.proofs.Order.{lt_is, le_refl, lt→le, not_lt_from_le}
use Rattle.float.proofs.Fields.{of_bits_is, value_at, value_below}
use Rattle.float.proofs.Units.{plain_of, count_of, count_known}
use Rattle.float.proofs.UnitsOrder.{counts_from_le, plain_number}

-- the f32 with the pattern b
abbrev pub at : ℕ → Float
at b = of_bits binary32 b

-- ---- a larger pattern is a larger number

pub count_at : (b : ℕ) → 8388608 ≤ b → b < 2139095040 → count (of_bits binary32 b) ≡ (8388608 + b % 8388608) * 2 ^ (b / 8388608 - 1)
count_at b l h = count_of (of_bits binary32 b) false ((8388608 + b % 8388608) * 2 ^ (b / 8388608 - 1)) (value_at b l h)

count_below : (b : ℕ) → b < 8388608 → count (of_bits binary32 b) ≡ b
count_below b h = count_of (of_bits binary32 b) false (b * 2 ^ 0) (value_below b h) ∙ mul-one b

pub plain_at : (b : ℕ) → b < 2139095040 → T (plain (of_bits binary32 b))
plain_at b h = go (dec_le 8388608 b)
  where
    go : Dec (8388608 ≤ b) → T (plain (of_bits binary32 b))
    go (yes l) = plain_of (of_bits binary32 b) ((8388608 + b % 8388608) * 2 ^ (b / 8388608 - 1)) (2 ^ 149) (value_at b l h)
    go (no f) = plain_of (of_bits binary32 b) (b * 2 ^ 0) (2 ^ 149) (value_below b (lt_of_not-le f))

val_mono : (b c : ℕ) → 8388608 ≤ b → b ≤ c → (8388608 + b % 8388608) * 2 ^ (b / 8388608 - 1) ≤ (8388608 + c % 8388608) * 2 ^ (c / 8388608 - 1)
val_mono b c h k =
    elim (eq-or-lt_of_le fields) [
      | inl e ↦ subst (λ (x : ℕ). (8388608 + b % 8388608) * 2 ^ (b / 8388608 - 1) ≤ (8388608 + c % 8388608) * 2 ^ (x - 1)) e (mul-le-mul_right (2 ^ (b / 8388608 - 1)) (digits e))
      | inr l ↦
          le_trans (mul-le-mul_right (2 ^ (b / 8388608 - 1)) twice)
          (le_trans (le_of_eq (mul_assoc 8388608 2 (2 ^ (b / 8388608 - 1)) ∙ ap (λ (x : ℕ). 8388608 * x) (sym (pow-succ' 2 (b / 8388608 - 1)))))
          (le_trans (mul-le-mul_left 8388608 (pow_mono (next l))) (mul-le-mul_right (2 ^ (c / 8388608 - 1)) once)))
    ]
  where
    fields : b / 8388608 ≤ c / 8388608
    fields = omega arith

    digits : b / 8388608 ≡ c / 8388608 → 8388608 + b % 8388608 ≤ 8388608 + c % 8388608
    digits e = omega arith

    twice : 8388608 + b % 8388608 ≤ 8388608 * 2
    twice = omega arith

    once : 8388608 ≤ 8388608 + c % 8388608
    once = omega arith

    next : b / 8388608 < c / 8388608 → suc (b / 8388608 - 1) ≤ c / 8388608 - 1
    next l = omega arith

pub counts_by_pattern : (b c : ℕ) → b ≤ c → c < 2139095040 → count (of_bits binary32 b) ≤ count (of_bits binary32 c)
counts_by_pattern b c h l = go (dec_le 8388608 b) (dec_le 8388608 c)
  where
    go : Dec (8388608 ≤ b) → Dec (8388608 ≤ c) → count (of_bits binary32 b) ≤ count (of_bits binary32 c)
    go (yes p) (yes q) = subst (λ (x : ℕ). x ≤ count (of_bits binary32 c)) (sym (count_at b p (lt_of_le_of_lt h l))) (le_trans (val_mono b c p h) (le_of_eq (sym (count_at c q l))))
    go (yes p) (no g) = absurd (g (le_trans p h))
    go (no f) (yes q) =
        le_trans (le_of_eq (count_below b (lt_of_not-le f)))
        (le_trans (le_of_lt (lt_of_not-le f))
        (le_trans (le_trans (le_trans once (le_of_eq (sym (mul-one (8388608 + c % 8388608))))) (mul-le-mul_left (8388608 + c % 8388608) (pow_pos (c / 8388608 - 1))))
        (le_of_eq (sym (count_at c q l)))))
      where
        once : 8388608 ≤ 8388608 + c % 8388608
        once = omega arith
    go (no f) (no g) = subst (λ (x : ℕ). x ≤ count (of_bits binary32 c)) (sym (count_below b (lt_of_not-le f))) (le_trans h (le_of_eq (sym (count_below c (lt_of_not-le g)))))

-- the patterns of plain numbers are those below the infinity's
minus_not : (x : Float) (a c : ℕ) → HasValue x true a c → T (plain x) → ⊥
minus_not nan a c v p = p
minus_not (inf s) a c v p = p
minus_not (fin true m e) a c v p = p
minus_not (fin false m e) a c v p = mathlib.Core.Bool.true≢false (sym v.0)

no_number : (z s : Bool) → T (plain (cond z (inf s) nan)) → ⊥
no_number true s p = p
no_number false s p = p

minus_fields : (f t : ℕ) → T (plain (of_fields binary32 true f t)) → ⊥
unfolding of_fields
minus_fields zero t p = minus_not (odd 24 true t 0 149) (t * 2 ^ 0) (2 ^ 149) (odd_sign 24 true t 0 149) p
minus_fields (suc x) t p = top (eqb (suc x) 255) (eqb t 0) p
  where
    top : (y z : Bool) → T (plain (cond y (cond z (inf true) nan) (odd 24 true (8388608 + t) x 149))) → ⊥
    top true z p = no_number z true p
    top false z p = minus_not (odd 24 true (8388608 + t) x 149) ((8388608 + t) * 2 ^ x) (2 ^ 149) (odd_sign 24 true (8388608 + t) x 149) p

full_fields : (s : Bool) (t : ℕ) → T (plain (of_fields binary32 s 255 t)) → ⊥
unfolding of_fields
full_fields s t p = no_number (eqb t 0) s p

pub plain_pattern : (b : ℕ) → b < 4294967296 → T (plain (of_bits binary32 b)) → b < 2139095040
plain_pattern b h p = go (dec_le 2147483648 b) (dec_le 2139095040 b)
  where
    go : Dec (2147483648 ≤ b) → Dec (2139095040 ≤ b) → b < 2139095040
    go d (no g) = lt_of_not-le g
    go (yes l) (yes g) = absurd (minus_fields (b % 2147483648 / 8388608) (b % 8388608) (subst (λ (x : Float). T (plain x)) (of_bits_is b ∙ ap (λ (s : Bool). of_fields binary32 s (b % 2147483648 / 8388608) (b % 8388608)) (is_true (leb 2147483648 b) (le→leb 2147483648 b l))) p))
    go (no f) (yes g) =
        let l : b < 2147483648 = lt_of_not-le f in
        let e : b % 2147483648 / 8388608 ≡ 255 = omega arith in
        absurd (full_fields (leb 2147483648 b) (b % 8388608) (subst (λ (x : Float). T (plain x)) (of_bits_is b ∙ ap (λ (x : ℕ). of_fields binary32 (leb 2147483648 b) x (b % 8388608)) e) p))

-- ---- the order of patterns

pub at_top : at 2139095040 ≡ inf false
unfolding of_bits
at_top = refl

pub below_infinity : (x : Float) → T (plain x) → T (lt x (inf false))
unfolding lt
below_infinity nan p = absurd p
below_infinity (inf s) p = absurd p
below_infinity (fin s m e) p = tt

-- equal counts would be equal floats, and so one pattern
plain_lt : (b c : ℕ) → b < c → c < 2139095040 → T (lt (at b) (at c))
plain_lt b c h l =
    subst T (sym (lt_is (at b) (at c) (plain_number (at b) pb) (plain_number (at c) pc))) (not_T (le (at c) (at b)) (λ (w : T (le (at c) (at b))). lt_irrefl b (subst (λ (x : ℕ). b < x) (same w) h)))
  where
    bl : b < 2139095040
    bl = omega arith

    pb : T (plain (at b))
    pb = plain_at b bl

    pc : T (plain (at c))
    pc = plain_at c l

    fb : T (fits binary32 (at b))
    fb = of_bits-fits binary32 b

    fc : T (fits binary32 (at c))
    fc = of_bits-fits binary32 c

    read : (k : ℕ) → k < 2139095040 → T (plain (at k)) → to_bits binary32 (at k) ≡ k
    read k kl p = to_bits-of_bits binary32 k (omega arith) (subst (λ (y : Bool). T (not y)) (sym (plain_number (at k) p)) tt)

    same : T (le (at c) (at b)) → c ≡ b
    same w =
        sym (read c l pc)
        ∙ ap (to_bits binary32) (count_known (at c) (at b) fc pc fb pb (le_antisymm (counts_from_le (at c) (at b) fc pc fb pb w) (counts_by_pattern b c (le_of_lt h) l)))
        ∙ read b bl pb

pub pattern_lt : (b c : ℕ) → b < c → c ≤ 2139095040 → T (lt (at b) (at c))
pattern_lt b c h l =
    elim (eq-or-lt_of_le l) [
      | inl e ↦ subst (λ (x : Float). T (lt (at b) x)) (sym (ap at e ∙ at_top)) (below_infinity (at b) (plain_at b (lt_of_lt_of_eq h e)))
      | inr k ↦ plain_lt b c h k
    ]
  where
    lt_of_lt_of_eq : {a b c : ℕ} → a < b → b ≡ c → a < c
    lt_of_lt_of_eq {a} {b} {c} h e = omega arith

pub number_at : (b : ℕ) → b ≤ 2139095040 → is_nan (at b) ≡ false
unfolding is_nan
number_at b l = elim (eq-or-lt_of_le l) [ inl e ↦ ap (λ (k : ℕ). is_nan (at k)) e ∙ ap is_nan at_top | inr k ↦ plain_number (at b) (plain_at b k) ]

pub pattern_le : (b c : ℕ) → b ≤ c → c ≤ 2139095040 → T (le (at b) (at c))
pattern_le b c h l =
    elim (eq-or-lt_of_le h) [
      | inl e ↦ subst (λ (x : ℕ). T (le (at b) (at x))) e (le_refl (at b) (number_at b (le_trans h l)))
      | inr k ↦ lt→le (at b) (at c) (pattern_lt b c k l)
    ]

-- ---- and back: the pattern of a plain f32
module _ (x : Float) (f : T (fits binary32 x)) (p : T (plain x)) where
  pub pattern_back : at (to_bits binary32 x) ≡ x
  pattern_back = of_bits-to_bits binary32 x f

  pub pattern_under : to_bits binary32 x < 2139095040
  pattern_under = plain_pattern (to_bits binary32 x) (to_bits-lt binary32 x f) (subst (λ (y : Float). T (plain y)) (sym pattern_back) p)

pub pattern_mono : (x y : Float) → T (fits binary32 x) → T (plain x) → T (fits binary32 y) → T (plain y) → T (le x y) → to_bits binary32 x ≤ to_bits binary32 y
pattern_mono x y fx px fy py h = go (dec_le (to_bits binary32 x) (to_bits binary32 y))
  where
    go : Dec (to_bits binary32 x ≤ to_bits binary32 y) → to_bits binary32 x ≤ to_bits binary32 y
    go (yes l) = l
    go (no f) =
        let u = pattern_under x fx px in
        let k : T (lt y x) = rw (pattern_back y fy py, pattern_back x fx px) at (pattern_lt (to_bits binary32 y) (to_bits binary32 x) (lt_of_not-le f) (omega arith)) in
        absurd (true≢false (sym (is_true _ k) ∙ not_lt_from_le y x h))
