-- A quotient told by the first digits of its divisor: T is from q * E to (q + 2) * E, and num is m of q and a rest. Where the rest is far from
-- nothing and from half of q, num * E over T has the same whole part, and is rounded the same way. Assumes nothing.
use mathlib.Core.Path.{◌≡◌, refl, sym, ap, ◌∙◌}
use mathlib.Core.Logic.{◌⊎◌, inl, inr}
use mathlib.Core.Bool.{cond}
use Prim.Native.Nat.{ℕ, ◌+◌, ◌-◌, ◌*◌, ◌^◌, ◌≤◌, ◌<◌, compare, zero-le}
use native.Mathlib.Nat.{add_assoc, add-mul, mul_assoc, mul_right_comm, le_trans, le_of_eq, mul-le-mul_left, mul-le-mul_right, mul-lt-mul_of_pos_right}
use native.Mathlib.Omega.{arith}
use lib.Pow.{pow-add, pow_pos, pow_mono}
use lib.Ieee.{nearest}
use lib.Ieee.Fits.{nearest-le}
use Rattle.decimal.specs.inner.Steps.{FitsTo, BitsOf}
use Rattle.decimal.specs.inner.Near.{twos_of, FirstForty}
use Rattle.float.proofs.Fraction.{bits_are}
use Rattle.float.proofs.Nearest.{stays, moves}
use Rattle.decimal.proofs.Scale.{ten_le, unit_is}

module _ (num q E T m rest : ℕ) (under : q * E ≤ T) (over : T ≤ (q + 2) * E) (long : num ≡ m * q + rest) (less : rest < q) (some : 2 * m ≤ rest) (E_pos : 0 < E) where
  -- what is left of num * E
  abbrev pub exact : ℕ
  exact = num * E - m * T

  whole : num * E ≡ m * (q * E) + rest * E
  whole = ap (λ (x : ℕ). x * E) long ∙ add-mul (m * q) rest E ∙ ap (λ (x : ℕ). x + rest * E) (mul_assoc m q E)

  at_least : m * (q * E) ≤ m * T
  at_least = mul-le-mul_left m under

  at_most : m * T ≤ m * (q * E) + 2 * (m * E)
  at_most = le_trans (mul-le-mul_left m over) (le_of_eq parts)
    where
      parts : m * ((q + 2) * E) ≡ m * (q * E) + 2 * (m * E)
      parts = ap (λ (x : ℕ). m * x) (add-mul q 2 E) ∙ spread m (q * E) E
        where
          spread : (x y z : ℕ) → x * (y + 2 * z) ≡ x * y + 2 * (x * z)
          spread x y z = omega arith

  -- twice the whole part is within the rest
  within : 2 * (m * E) ≤ rest * E
  within = le_trans (le_of_eq (sym (mul_assoc 2 m E))) (mul-le-mul_right E some)

  pub exact_long : num * E ≡ m * T + exact
  exact_long = let a = whole in let b = at_most in let c = within in omega arith

  exact_most : exact ≤ rest * E
  exact_most = let a = whole in let b = at_least in omega arith

  exact_least : rest * E ≤ exact + 2 * (m * E)
  exact_least = let a = whole in let b = at_most in let c = within in omega arith

  pub exact_less : exact < T
  exact_less = let a = exact_most in let b = mul-lt-mul_of_pos_right less E_pos in omega (arith, under)

  -- a rest on one side of half of q is on the same side of half of T
  down : rest * 2 < q → exact * 2 < T
  down l = let a = exact_most in let b = mul-lt-mul_of_pos_right l E_pos in omega (arith, under)

  up : q + 2 + 4 * m < rest * 2 → T < exact * 2
  up l = let a = exact_least in let b = mul-lt-mul_of_pos_right l E_pos in omega (arith, over)

  pub exact_rounds : (rest * 2 < q) ⊎ (q + 2 + 4 * m < rest * 2) → nearest m (compare (rest * 2) q) ≡ nearest m (compare (exact * 2) T)
  exact_rounds (inl l) = let g = down l in sym (stays m (rest * 2) q (omega arith)) ∙ stays m (exact * 2) T (omega arith)
  exact_rounds (inr l) = let g = up l in sym (moves m (rest * 2) q (omega arith)) ∙ moves m (exact * 2) T (omega arith)

-- ---- by the first digits of a power of five
module _ (d n z p num den up m rest : ℕ) (is : num ≡ d * 2 ^ z) (first : FirstForty n p) (by : FitsTo num p den up) (long : num ≡ m * den + rest) (less : rest < den) (some : 2 * m ≤ rest) where
  abbrev E : ℕ
  E = 2 ^ twos_of n

  -- the power of five itself, moved up as far
  abbrev T : ℕ
  T = 5 ^ n * 2 ^ (39 + up)

  T_is : T ≡ 5 ^ n * 2 ^ 39 * 2 ^ up
  T_is = ap (λ (x : ℕ). 5 ^ n * x) (pow-add 2 39 up) ∙ sym (mul_assoc (5 ^ n) (2 ^ 39) (2 ^ up))

  under : den * E ≤ T
  under = le_trans (le_of_eq (ap (λ (x : ℕ). x * E) by.is ∙ mul_right_comm p (2 ^ up) E)) (le_trans (mul-le-mul_right (2 ^ up) first.under) (le_of_eq (sym T_is)))

  over : T ≤ (den + 2) * E
  over =
      le_trans (le_of_eq T_is) (le_trans (mul-le-mul_right (2 ^ up) first.over) (le_trans (le_of_eq (mul_right_comm (p + 1) E (2 ^ up))) (mul-le-mul_right E more)))
    where
      twice : (x : ℕ) → x ≤ 1 → 2 ^ x ≤ 2
      twice x h = pow_mono {i = x} {j = 1} h

      more : (p + 1) * 2 ^ up ≤ den + 2
      more = let a = twice up by.once in let b = by.is in let c : (p + 1) * 2 ^ up ≡ p * 2 ^ up + 1 * 2 ^ up = add-mul p 1 (2 ^ up) in omega arith

  -- where the rest is not near half of den
  module _ (clear : (rest * 2 < den) ⊎ (den + 2 + 4 * m < rest * 2)) (k : ℕ) (unit : n + (k + (z + twos_of n)) ≡ 149 + (39 + up)) (lo : 8388608 ≤ m) (hi : m < 16777216) (k_le : k ≤ 250) where
    moved : d * 2 ^ (z + twos_of n) ≡ m * T + exact num den E T m rest under over long less some (pow_pos (twos_of n))
    moved =
        ap (λ (x : ℕ). d * x) (pow-add 2 z (twos_of n)) ∙ sym (mul_assoc d (2 ^ z) E) ∙ ap (λ (x : ℕ). x * E) (sym is)
        ∙ exact_long num den E T m rest under over long less some (pow_pos (twos_of n))

    pub near_bits : (q : ℕ) → q ≡ nearest m (compare (rest * 2) den) → BitsOf d (10 ^ n) (k * 8388608 + q)
    near_bits q e =
        record {
          small = most k q k_le (le_trans (le_of_eq e) (le_trans (nearest-le m (compare (rest * 2) den)) hi));
          signed = λ s.
              sym (add_assoc (cond s (2 ^ 31) 0) (k * 8388608) q)
              ∙ ap (λ (x : ℕ). cond s (2 ^ 31) 0 + k * 8388608 + x) (e ∙ exact_rounds num den E T m rest under over long less some (pow_pos (twos_of n)) clear)
              ∙ sym (bits_are s d (10 ^ n) m (exact num den E T m rest under over long less some (pow_pos (twos_of n))) T (z + twos_of n) k (ten_le 0 n zero-le) moved (exact_less num den E T m rest under over long less some (pow_pos (twos_of n)))
              (unit_is n T (39 + up) (k + (z + twos_of n)) refl unit) lo hi k_le);
        }
      where
        most : (k q : ℕ) → k ≤ 250 → q ≤ 16777216 → k * 8388608 + q ≤ 2139095040
        most k q h l = omega arith
