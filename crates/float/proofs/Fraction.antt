-- The bits of a fraction rounded to binary32, from a long division. Assumes nothing.
use mathlib.Core.Path.{◌≡◌, refl, sym, ap, ◌∙◌, subst}
use mathlib.Core.Logic.{inl, inr}
use mathlib.Core.Bool.{Bool, true, false, cond}
use Prim.Native.Nat.{ℕ, ◌+◌, ◌-◌, ◌*◌, ◌/◌, ◌%◌, ◌^◌, ◌≤◌, ◌<◌, compare}
use native.Mathlib.Nat.{le_trans, le_of_eq, lt_of_lt_of_le, lt_of_le_of_lt, lt_of_not-le, not-le_of_lt, eq-or-lt_of_le, mul_comm, mul_assoc, mul_left_comm, zero-mul, mul-pos, mul-div_cancel, div-div-eq-div-mul, le-div_iff_mul-le, div-lt_iff_lt-mul}
use native.Mathlib.Omega.{arith}
use lib.Arith.{digits_div, digits_mod}
use lib.Dec.{lit<, lit≤}
use lib.IntN.{ℤ}
use lib.Pow.{pow-add, pow_pos, pow_mono, shl_lt, shl-shr}
use lib.Ieee.{Float, nan, inf, fin, binary32, up, down, size, nearest, units, round, to_bits, of_bits}
use lib.Ieee.Digits.{size-lt, size-le}
use lib.Ieee.Fits.{down_pos, nearest-le, core, round_is, round-fits}
use lib.Ieee.Bits.{of_bits-to_bits}
use lib.Ieee.Exact.{HasValue, units_val}
use lib.Ieee.Nearest.{closest, closest_same, div_same, nearest-ge}
use lib.Ieee.Scale.{round_same}

-- ---- how many digits a number has
size-gt : (n j : ℕ) → 2 ^ j ≤ n → j < size n
size-gt n j h = lt_of_not-le (λ (g : size n ≤ j). not-le_of_lt (lt_of_lt_of_le (size-lt n) (pow_mono g)) h)

pin : (z j : ℕ) → z ≤ j + 1 → j < z → z ≡ j + 1
pin z j a b = omega arith

pub size_is : (n j : ℕ) → 2 ^ j ≤ n → n < 2 ^ (j + 1) → size n ≡ j + 1
size_is n j a b = pin (size n) j (size-le n (j + 1) b) (size-gt n j a)

-- with k digits cut off, n is m, of j + 1 digits
size_cut : (n k j m : ℕ) → n / 2 ^ k ≡ m → 2 ^ j ≤ m → m < 2 ^ (j + 1) → size n ≡ j + k + 1
size_cut n k j m e a b =
    size_is n (j + k)
    (le_trans (le_of_eq (pow-add 2 j k)) ((le-div_iff_mul-le (pow_pos k)).0 (subst (λ (x : ℕ). 2 ^ j ≤ x) (sym e) a)))
    (lt_of_lt_of_le ((div-lt_iff_lt-mul (pow_pos k)).0 (subst (λ (x : ℕ). x < 2 ^ (j + 1)) (sym e) b)) (le_of_eq (sym (pow-add 2 (j + 1) k) ∙ ap (λ (x : ℕ). 2 ^ x) (swap j k))))
  where
    swap : (a b : ℕ) → a + 1 + b ≡ a + b + 1
    swap a b = omega arith

-- ---- the bits of a value
-- the bits of a value that is n units in size
pub fields : Bool → ℕ → ℕ
fields s n = cond s (2 ^ 31) 0 + (size n - 24) * 2 ^ 23 + n / 2 ^ (size n - 24)

bits_at : (t : Bool) (m : ℕ) (e : ℤ) → to_bits binary32 (fin t m e) ≡ fields t (m * up e * 2 ^ 149 / down e)
unfolding to_bits fields
bits_at t m e = refl

pub bits_of : (x : Float) (s : Bool) (a : ℕ) → HasValue x s a (2 ^ 149) → to_bits binary32 x ≡ fields s a
bits_of nan s a v = absurd v
bits_of (inf t) s a v = absurd v
bits_of (fin t m e) s a v =
    bits_at t m e ∙ ap (λ (b : Bool). fields b (m * up e * 2 ^ 149 / down e)) v.0
    ∙ ap (λ (x : ℕ). fields s x) (ap (λ (x : ℕ). x / down e) v.1 ∙ mul-div_cancel a (down_pos e))

pub fields_put : (s : Bool) (n z j d : ℕ) → size n ≡ z → z - 24 ≡ j → n / 2 ^ j ≡ d → fields s n ≡ cond s (2 ^ 31) 0 + j * 2 ^ 23 + d
unfolding fields
fields_put s n z j d e f g =
    ap (λ (x : ℕ). cond s (2 ^ 31) 0 + (x - 24) * 2 ^ 23 + n / 2 ^ (x - 24)) e
    ∙ ap (λ (x : ℕ). cond s (2 ^ 31) 0 + x * 2 ^ 23 + n / 2 ^ x) f
    ∙ ap (λ (x : ℕ). cond s (2 ^ 31) 0 + j * 2 ^ 23 + x) g

-- q units of 2 ^ k, with q of 24 digits, or the one number of 25 that rounding up can make
pub fields_of : (s : Bool) (q k : ℕ) → 2 ^ 23 ≤ q → q ≤ 2 ^ 24 → fields s (q * 2 ^ k) ≡ cond s (2 ^ 31) 0 + k * 2 ^ 23 + q
fields_of s q k a b = elim (eq-or-lt_of_le b) [ inl e ↦ subst (λ (x : ℕ). fields s (x * 2 ^ k) ≡ cond s (2 ^ 31) 0 + k * 2 ^ 23 + x) (sym e) carried | inr l ↦ plain l ]
  where
    less : (j : ℕ) → 23 + j + 1 - 24 ≡ j
    less j = omega arith

    more : (j : ℕ) → 24 + j + 1 - 24 ≡ j + 1
    more j = omega arith

    same : (x j : ℕ) → x + (j + 1) * 8388608 + 8388608 ≡ x + j * 8388608 + 16777216
    same x j = omega arith

    shift : (x y : ℕ) → y ≡ x * 2 → 16777216 * x ≡ 8388608 * y
    shift x y e = omega arith

    plain : q < 2 ^ 24 → fields s (q * 2 ^ k) ≡ cond s (2 ^ 31) 0 + k * 2 ^ 23 + q
    plain l = fields_put s (q * 2 ^ k) (23 + k + 1) k q (size_cut (q * 2 ^ k) k 23 q (shl-shr q k) a l) (less k) (shl-shr q k)

    carried : fields s (2 ^ 24 * 2 ^ k) ≡ cond s (2 ^ 31) 0 + k * 2 ^ 23 + 2 ^ 24
    carried =
        fields_put s (2 ^ 24 * 2 ^ k) (24 + k + 1) (k + 1) (2 ^ 23)
        (size_cut (2 ^ 24 * 2 ^ k) k 24 (2 ^ 24) (shl-shr (2 ^ 24) k) (lit≤ tt) (lit< tt))
        (more k)
        (ap (λ (x : ℕ). x / 2 ^ (k + 1)) (shift (2 ^ k) (2 ^ (k + 1)) (pow-add 2 k 1)) ∙ shl-shr (2 ^ 23) (k + 1))
        ∙ same (cond s (2 ^ 31) 0) k

-- ---- what `round` makes of a fraction whose unit is known: 2 ^ k of the smallest values, of which the fraction has a whole part of 24 digits
module _ (s : Bool) (d p k : ℕ) (P : 0 < p) (lo : 2 ^ 23 ≤ d * 2 ^ 149 / (p * 2 ^ k)) (hi : d * 2 ^ 149 / (p * 2 ^ k) < 2 ^ 24) (k_le : k ≤ 250) where
  abbrev n : ℕ
  n = d * 2 ^ 149

  abbrev q : ℕ
  q = closest n (p * 2 ^ k)

  drops : size (n / p) - 24 ≡ k
  drops = ap (λ (x : ℕ). x - 24) (size_cut (n / p) k 23 (n / (p * 2 ^ k)) (div-div-eq-div-mul n p (2 ^ k)) lo hi) ∙ less k
    where
      less : (j : ℕ) → 23 + j + 1 - 24 ≡ j
      less j = omega arith

  rounds : round binary32 s d p ≡ units binary32 s q k
  rounds = round_is binary32 s d p ∙ ap (λ (x : ℕ). core binary32 s n p x) drops

  q_lo : 2 ^ 23 ≤ q
  q_lo = le_trans lo (nearest-ge (n / (p * 2 ^ k)) (compare (n % (p * 2 ^ k) * 2) (p * 2 ^ k)))

  q_hi : q ≤ 2 ^ 24
  q_hi = le_trans (nearest-le (n / (p * 2 ^ k)) (compare (n % (p * 2 ^ k) * 2) (p * 2 ^ k))) hi

  small : q * 2 ^ k < 2 ^ 277
  small = lt_of_lt_of_le (shl_lt 25 k (lt_of_le_of_lt q_hi (lit< tt))) (pow_mono (fit k k_le))
    where
      fit : (j : ℕ) → j ≤ 250 → 25 + j ≤ 277
      fit j h = omega arith

  bits_unit : to_bits binary32 (round binary32 s d p) ≡ cond s (2 ^ 31) 0 + k * 2 ^ 23 + closest (d * 2 ^ 149) (p * 2 ^ k)
  bits_unit = ap (to_bits binary32) rounds ∙ bits_of (units binary32 s q k) s (q * 2 ^ k) (units_val binary32 s q k small) ∙ fields_of s q k q_lo q_hi

-- ---- the same from a long division
-- d * 2 ^ down is m times den, and r more; in units of 2 ^ k of the smallest values d / p is that over den; and m has the 24 digits that binary32 keeps
module _ (s : Bool) (d p m r den down k : ℕ) (P : 0 < p) (long : d * 2 ^ down ≡ m * den + r) (rest : r < den) (unit : 2 ^ 149 * den ≡ p * 2 ^ (k + down)) (lo : 2 ^ 23 ≤ m) (hi : m < 2 ^ 24) (k_le : k ≤ 250) where
  u_pos : 0 < p * 2 ^ k
  u_pos = mul-pos P (pow_pos k)

  den_pos : 0 < den
  den_pos = omega arith

  -- the two fractions are the same
  cross : d * 2 ^ 149 * den ≡ d * 2 ^ down * (p * 2 ^ k)
  cross = mul_assoc d (2 ^ 149) den ∙ ap (λ (x : ℕ). d * x) (unit ∙ ap (λ (x : ℕ). p * x) (pow-add 2 k down)) ∙ shuffle d p (2 ^ k) (2 ^ down)
    where
      shuffle : (x y z w : ℕ) → x * (y * (z * w)) ≡ x * w * (y * z)
      shuffle x y z w = simp (mul_assoc, mul_comm, mul_left_comm)

  whole_is : d * 2 ^ 149 / (p * 2 ^ k) ≡ m
  whole_is = div_same (d * 2 ^ 149) (p * 2 ^ k) (d * 2 ^ down) den u_pos den_pos cross ∙ ap (λ (x : ℕ). x / den) long ∙ digits_div m rest

  keeps : closest (d * 2 ^ 149) (p * 2 ^ k) ≡ nearest m (compare (r * 2) den)
  keeps =
      closest_same (d * 2 ^ 149) (p * 2 ^ k) (d * 2 ^ down) den u_pos den_pos cross
      ∙ ap (λ (x : ℕ). closest x den) long
      ∙ ap (λ (x : ℕ). nearest x (compare ((m * den + r) % den * 2) den)) (digits_div m rest)
      ∙ ap (λ (x : ℕ). nearest m (compare (x * 2) den)) (digits_mod m rest)

  pub bits_are : to_bits binary32 (round binary32 s d p) ≡ cond s (2 ^ 31) 0 + k * 2 ^ 23 + nearest m (compare (r * 2) den)
  bits_are =
      bits_unit s d p k P (subst (λ (x : ℕ). 2 ^ 23 ≤ x) (sym whole_is) lo) (subst (λ (x : ℕ). x < 2 ^ 24) (sym whole_is) hi) k_le
      ∙ ap (λ (x : ℕ). cond s (2 ^ 31) 0 + k * 2 ^ 23 + x) keeps

-- ---- zero
pub bits_zero : (s : Bool) (p : ℕ) → 0 < p → to_bits binary32 (round binary32 s 0 p) ≡ cond s (2 ^ 31) 0
unfolding to_bits round
bits_zero s p P = ap (to_bits binary32) (round_same binary32 s 0 p 0 1 P (lit< tt) (sym (zero-mul p))) ∙ at s
  where
    at : (b : Bool) → to_bits binary32 (round binary32 b 0 1) ≡ cond b (2 ^ 31) 0
    at true = refl
    at false = refl

-- ---- bits back to a value
pub bits_back : (s : Bool) (d p : ℕ) → of_bits binary32 (to_bits binary32 (round binary32 s d p)) ≡ round binary32 s d p
bits_back s d p = of_bits-to_bits binary32 (round binary32 s d p) (round-fits binary32 s d p)
