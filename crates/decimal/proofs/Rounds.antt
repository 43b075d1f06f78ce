-- What a fraction is rounded to, whatever its size: its unit is 2 ^ k of the smallest values, in which it has 24 binary digits before the point, or which is the smallest itself.
-- From 2 ^ 128 on it is infinite (`bits_beyond`, `vast`), and up to half of the smallest value it is zero (`tiny`). Assumes nothing.
use mathlib.Core.Path.{◌≡◌, refl, sym, ap, ◌∙◌, subst}
use mathlib.Core.Logic.{inl, inr}
use mathlib.Core.Bool.{Bool, true, false, cond}
use Prim.Native.Nat.{ℕ, ◌+◌, ◌-◌, ◌*◌, ◌/◌, ◌%◌, ◌^◌, ◌≤◌, ◌<◌, compare}
use native.Mathlib.Nat.{add-zero, mul-one, mul_assoc, le_trans, le_of_eq, lt_of_lt_of_le, lt_of_not-le, not-le_of_lt, le_of_mul-le-mul_right, mul-le-mul_right, mul-pos, div-one, div-div-eq-div-mul, le-div_iff_mul-le, div-lt_iff_lt-mul}
use native.Mathlib.Decide.{dec_le}
use native.Mathlib.Omega.{arith}
use lib.Arith.{digits_div, digits_mod}
use lib.Dec.{lit<, lit≤}
use lib.Pow.{pow-add, pow_pos, pow_mono, pow-lt}
use lib.Ieee.{inf, binary32, size, nearest, odd, units, round, to_bits, of_bits}
use lib.Ieee.Digits.{size-lt, size-le, size_reaches}
use lib.Ieee.Exact.{units_val}
use lib.Ieee.Fits.{kept-lt, nearest-le, core, round_is}
use lib.Ieee.Nearest.{closest, closest_same, div_same, nearest-ge}
use borrow.Author.Tests.{le-ltb}
use Rattle.decimal.specs.inner.Steps.{BitsOf}
use Rattle.float.proofs.Fraction.{size_is, bits_of, bits_back, bits_zero}
use Rattle.float.proofs.Nearest.{stays}
use Rattle.float.proofs.Units.{Full}
use Rattle.decimal.proofs.LastDigit.{fields_at}

-- ---- the unit that `round` takes
module _ (n p k : ℕ) (k_is : k ≡ size (n / p) - 24) where
  pub kept_few : n / (p * 2 ^ k) < 2 ^ 24
  kept_few = subst (λ (x : ℕ). x < 2 ^ 24) (ap (λ (j : ℕ). n / p / 2 ^ j) (sym k_is) ∙ div-div-eq-div-mul n p (2 ^ k)) (kept-lt 24 (n / p))

  pub kept_full : Full (n / (p * 2 ^ k)) k
  kept_full = go (dec_le 1 k)
    where
      none : (x : ℕ) → x < 1 → x ≡ 0
      none x h = omega arith

      all : (x z : ℕ) → x ≡ z - 24 → 1 ≤ x → 23 + x < z
      all x z e h = omega arith

      go : Dec (1 ≤ k) → Full (n / (p * 2 ^ k)) k
      go (no f) = inl (none k (lt_of_not-le f))
      go (yes l) =
          inr (subst (λ (x : ℕ). 2 ^ 23 ≤ x) (div-div-eq-div-mul n p (2 ^ k))
          ((le-div_iff_mul-le (pow_pos k)).1 (le_trans (le_of_eq (sym (pow-add 2 23 k))) (size_reaches (n / p) (23 + k) (all k (size (n / p)) k_is l)))))

-- ---- and what it makes of it
pub infinite : (s : Bool) (q k : ℕ) → 2 ^ 277 ≤ q * 2 ^ k → units binary32 s q k ≡ inf s
unfolding units
infinite s q k h = ap (λ (t : Bool). cond t (odd 25 s q k 149) (inf s)) (le-ltb (q * 2 ^ k) (2 ^ 277) h)

pub bits_infinite : (s : Bool) → to_bits binary32 (inf s) ≡ cond s (2 ^ 31) 0 + 2139095040
unfolding to_bits
bits_infinite true = refl
bits_infinite false = refl

module _ (s : Bool) (d p k : ℕ) (full : Full (d * 2 ^ 149 / (p * 2 ^ k)) k) (few : d * 2 ^ 149 / (p * 2 ^ k) < 2 ^ 24) where
  abbrev n : ℕ
  n = d * 2 ^ 149

  abbrev w : ℕ
  w = n / (p * 2 ^ k)

  abbrev q : ℕ
  q = closest n (p * 2 ^ k)

  drops : size (n / p) - 24 ≡ k
  drops = elim full [ inl e ↦ none e | inr l ↦ some l ]
    where
      parts : w ≡ n / p / 2 ^ k
      parts = sym (div-div-eq-div-mul n p (2 ^ k))

      nothing : (z : ℕ) → z ≤ 24 → z - 24 ≡ 0
      nothing z h = omega arith

      less : (j : ℕ) → 23 + j + 1 - 24 ≡ j
      less j = omega arith

      swap : (j : ℕ) → 24 + j ≡ 23 + j + 1
      swap j = omega arith

      none : k ≡ 0 → size (n / p) - 24 ≡ k
      none e = nothing (size (n / p)) (size-le (n / p) 24 (subst (λ (x : ℕ). x < 2 ^ 24) (parts ∙ ap (λ (j : ℕ). n / p / 2 ^ j) e ∙ div-one (n / p)) few)) ∙ sym e

      some : 2 ^ 23 ≤ w → size (n / p) - 24 ≡ k
      some l =
          ap (λ (x : ℕ). x - 24)
          (size_is (n / p) (23 + k) (le_trans (le_of_eq (pow-add 2 23 k)) ((le-div_iff_mul-le (pow_pos k)).0 (subst (λ (x : ℕ). 2 ^ 23 ≤ x) parts l)))
          (lt_of_lt_of_le ((div-lt_iff_lt-mul (pow_pos k)).0 (subst (λ (x : ℕ). x < 2 ^ 24) parts few)) (le_of_eq (sym (pow-add 2 24 k) ∙ ap (λ (j : ℕ). 2 ^ j) (swap k)))))
          ∙ less k

  rounds : round binary32 s d p ≡ units binary32 s q k
  rounds = round_is binary32 s d p ∙ ap (λ (x : ℕ). core binary32 s n p x) drops

  q_most : q ≤ 2 ^ 24
  q_most = le_trans (nearest-le w (compare (n % (p * 2 ^ k) * 2) (p * 2 ^ k))) few

  q_full : Full q k
  q_full = elim full [ inl e ↦ inl e | inr l ↦ inr (le_trans l (nearest-ge w (compare (n % (p * 2 ^ k) * 2) (p * 2 ^ k)))) ]

  pub bits_rounded : k ≤ 253 → to_bits binary32 (round binary32 s d p) ≡ cond s (2 ^ 31) 0 + k * 2 ^ 23 + q
  bits_rounded h = ap (to_bits binary32) rounds ∙ go (dec_le (2 ^ 277) (q * 2 ^ k))
    where
      pin : (a b : ℕ) → a ≤ b → b ≤ a → a ≡ b
      pin a b f g = omega arith

      most : (x : ℕ) → 277 ≤ 24 + x → 253 ≤ x
      most x g = omega arith

      at_most : 2 ^ 277 ≤ q * 2 ^ k → 277 ≤ 24 + k
      at_most g = reach (dec_le 277 (24 + k))
        where
          reach : Dec (277 ≤ 24 + k) → 277 ≤ 24 + k
          reach (yes e) = e
          reach (no f) = absurd (not-le_of_lt (pow-lt {i = 24 + k} {j = 277} (lt_of_not-le f)) (le_trans g (le_trans (mul-le-mul_right (2 ^ k) q_most) (le_of_eq (sym (pow-add 2 24 k))))))

      top : (t : Bool) → cond t (2 ^ 31) 0 + 2139095040 ≡ cond t (2 ^ 31) 0 + 253 * 2 ^ 23 + 2 ^ 24
      top true = refl
      top false = refl

      go : Dec (2 ^ 277 ≤ q * 2 ^ k) → to_bits binary32 (units binary32 s q k) ≡ cond s (2 ^ 31) 0 + k * 2 ^ 23 + q
      go (no f) = bits_of (units binary32 s q k) s (q * 2 ^ k) (units_val binary32 s q k (lt_of_not-le f)) ∙ fields_at s q k q_full q_most
      go (yes g) =
          let k_is : 253 ≡ k = pin 253 k (most k (at_most g)) h in
          let q_is : 2 ^ 24 ≡ q = pin (2 ^ 24) q (le_of_mul-le-mul_right {k = 2 ^ 253} (subst (λ (x : ℕ). 2 ^ 277 ≤ q * 2 ^ x) (sym k_is) g) (pow_pos 253)) q_most in
          ap (to_bits binary32) (infinite s q k g) ∙ bits_infinite s ∙ top s
          ∙ ap (λ (x : ℕ). cond s (2 ^ 31) 0 + x * 2 ^ 23 + 2 ^ 24) k_is ∙ ap (λ (x : ℕ). cond s (2 ^ 31) 0 + k * 2 ^ 23 + x) q_is

  pub round_beyond : 254 ≤ k → round binary32 s d p ≡ inf s
  round_beyond h = rounds ∙ infinite s q k (elim q_full [ inl e ↦ absurd (none k e h) | inr l ↦ le_trans (pow_mono {i = 277} {j = 23 + k} (high k h)) (le_trans (le_of_eq (pow-add 2 23 k)) (mul-le-mul_right (2 ^ k) l)) ])
    where
      none : (x : ℕ) → x ≡ 0 → 254 ≤ x → ⊥
      none x e g = omega arith

      high : (x : ℕ) → 254 ≤ x → 277 ≤ 23 + x
      high x g = omega arith

-- ---- the same from a long division: as a fraction x / den is what d / p is in that unit
module _ (s : Bool) (d p x den m r k : ℕ) (P : 0 < p) (cross : d * 2 ^ 149 * den ≡ x * (p * 2 ^ k)) (long : x ≡ m * den + r) (rest : r < den) (full : Full m k) (few : m < 2 ^ 24) where
  u_pos : 0 < p * 2 ^ k
  u_pos = mul-pos P (pow_pos k)

  den_pos : 0 < den
  den_pos = omega arith

  whole_is : d * 2 ^ 149 / (p * 2 ^ k) ≡ m
  whole_is = div_same (d * 2 ^ 149) (p * 2 ^ k) x den u_pos den_pos cross ∙ ap (λ (y : ℕ). y / den) long ∙ digits_div m rest

  keeps : closest (d * 2 ^ 149) (p * 2 ^ k) ≡ nearest m (compare (r * 2) den)
  keeps =
      closest_same (d * 2 ^ 149) (p * 2 ^ k) x den u_pos den_pos cross
      ∙ ap (λ (y : ℕ). closest y den) long
      ∙ ap (λ (y : ℕ). nearest y (compare ((m * den + r) % den * 2) den)) (digits_div m rest)
      ∙ ap (λ (y : ℕ). nearest m (compare (y * 2) den)) (digits_mod m rest)

  full_is : Full (d * 2 ^ 149 / (p * 2 ^ k)) k
  full_is = subst (λ (y : ℕ). Full y k) (sym whole_is) full

  few_is : d * 2 ^ 149 / (p * 2 ^ k) < 2 ^ 24
  few_is = subst (λ (y : ℕ). y < 2 ^ 24) (sym whole_is) few

  pub bits_divided : k ≤ 253 → to_bits binary32 (round binary32 s d p) ≡ cond s (2 ^ 31) 0 + k * 2 ^ 23 + nearest m (compare (r * 2) den)
  bits_divided h = bits_rounded s d p k full_is few_is h ∙ ap (λ (y : ℕ). cond s (2 ^ 31) 0 + k * 2 ^ 23 + y) keeps

  pub bits_beyond : 254 ≤ k → to_bits binary32 (round binary32 s d p) ≡ cond s (2 ^ 31) 0 + 2139095040
  bits_beyond h = ap (to_bits binary32) (round_beyond s d p k full_is few_is h) ∙ bits_infinite s

-- ---- bits back to a value
pub bits_value : (s : Bool) (d p b : ℕ) → BitsOf d p b → of_bits binary32 (cond s (2 ^ 31) 0 + b) ≡ round binary32 s d p
bits_value s d p b h = ap (of_bits binary32) (h.signed s) ∙ bits_back s d p

-- ---- far out
pub vast : (s : Bool) (d p : ℕ) → 0 < p → 2 ^ 128 * p ≤ d → round binary32 s d p ≡ inf s
vast s d p P h = round_beyond s d p k (kept_full n p k refl) (kept_few n p k refl) (high (size (n / p)) (lt_of_not-le least))
  where
    n : ℕ
    n = d * 2 ^ 149

    k : ℕ
    k = size (n / p) - 24

    high : (z : ℕ) → 277 < z → 254 ≤ z - 24
    high z g = omega arith

    reaches : 2 ^ 277 ≤ n / p
    reaches = (le-div_iff_mul-le P).1 (le_trans (le_of_eq (ap (λ (x : ℕ). x * p) (pow-add 2 149 128) ∙ shuffle (2 ^ 149) (2 ^ 128) p)) (mul-le-mul_right (2 ^ 149) h))
      where
        shuffle : (x y z : ℕ) → x * y * z ≡ y * z * x
        shuffle x y z = omega arith

    least : size (n / p) ≤ 277 → ⊥
    least g = not-le_of_lt (lt_of_lt_of_le (size-lt (n / p)) (pow_mono g)) reaches

pub tiny : (s : Bool) (d p : ℕ) → d * 2 ^ 150 ≤ p → 0 < p → round binary32 s d p ≡ round binary32 s 0 1
tiny s d p h P = sym (bits_back s d p) ∙ ap (of_bits binary32) (bits_small ∙ sym (bits_zero s 1 (lit< tt))) ∙ bits_back s 0 1
  where
    n : ℕ
    n = d * 2 ^ 149

    half : n * 2 ≤ p
    half = le_trans (le_of_eq (mul_assoc d (2 ^ 149) 2 ∙ ap (λ (x : ℕ). d * x) (sym (pow-add 2 149 1)))) h

    less : n < p
    less = under n p half P
      where
        under : (x y : ℕ) → x * 2 ≤ y → 0 < y → x < y
        under x y g k = omega arith

    bits_small : to_bits binary32 (round binary32 s d p) ≡ cond s (2 ^ 31) 0
    bits_small =
        bits_divided s d p n p 0 n 0 P (ap (λ (x : ℕ). n * x) (sym (mul-one p))) (none n p) less (inl refl) (lit< tt) (lit≤ tt)
        ∙ ap (λ (x : ℕ). cond s (2 ^ 31) 0 + 0 * 2 ^ 23 + x) (sym (stays 0 (n * 2) p (le_trans (le_of_eq (add-zero (n * 2))) half)))
        ∙ flat (cond s (2 ^ 31) 0)
      where
        none : (x y : ℕ) → x ≡ 0 * y + x
        none x y = omega arith

        flat : (x : ℕ) → x + 0 * 2 ^ 23 + 0 ≡ x
        flat x = omega arith
