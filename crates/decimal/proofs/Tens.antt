-- A number times a power of ten, as a quotient of fives moved by twos; and what it is rounded to. Assumes nothing.
use mathlib.Core.Path.{◌≡◌, sym, ap, ◌∙◌}
use mathlib.Core.Logic.{◌⊎◌}
use mathlib.Core.Bool.{cond}
use Prim.Native.Nat.{ℕ, ◌+◌, ◌*◌, ◌^◌, ◌≤◌, ◌<◌, compare, zero-le}
use native.Mathlib.Nat.{le_trans, le_of_eq, le_of_lt, lt_of_le_of_lt, add_assoc, one-mul, mul_assoc, mul_comm, mul_left_comm, mul-le-mul_left, mul-le-mul_right}
use native.Mathlib.Omega.{arith}
use lib.Dec.{lit<}
use lib.Pow.{pow-add}
use lib.Ieee.{nearest}
use lib.Ieee.Fits.{nearest-le}
use Rattle.decimal.specs.inner.Steps.{BitsOf}
use Rattle.decimal.specs.inner.Wide.{Roomy}
use Rattle.decimal.proofs.Rounds.{bits_divided, bits_beyond}
use Rattle.decimal.proofs.Scale.{five_le, ten_le, ten_is}

-- ---- 180 binary digits are enough for 64 and 38 fives, and for 64 fives
pub room_up : (d up : ℕ) → d < 2 ^ 64 → up ≤ 38 → Roomy (d * 5 ^ up)
unfolding Roomy
room_up d up h l = lt_of_le_of_lt (le_trans (mul-le-mul_right (5 ^ up) (le_of_lt h)) (mul-le-mul_left (2 ^ 64) (five_le up 38 l))) (lit< tt)

pub room_down : (down : ℕ) → down ≤ 64 → Roomy (1 * 5 ^ down)
unfolding Roomy
room_down down l = lt_of_le_of_lt (mul-le-mul_left 1 (five_le down 64 l)) (lit< tt)

-- ---- twos are moved from one side to the other
twos : (a b c x y z : ℕ) → a + b + c ≡ x + (y + z) → 2 ^ a * 2 ^ b * 2 ^ c ≡ 2 ^ x * (2 ^ y * 2 ^ z)
twos a b c x y z e =
    ap (λ (t : ℕ). t * 2 ^ c) (sym (pow-add 2 a b)) ∙ sym (pow-add 2 (a + b) c) ∙ ap (λ (t : ℕ). 2 ^ t) e ∙ pow-add 2 x (y + z)
    ∙ ap (λ (t : ℕ). 2 ^ x * t) (pow-add 2 y z)

crossed : (d f g a b c x y z : ℕ) → a * b * c ≡ x * (y * z) → d * (f * a) * b * (g * c) ≡ d * f * x * (g * y * z)
crossed d f g a b c x y z e = left ∙ ap (λ (t : ℕ). d * (f * (g * t))) e ∙ right
  where
    left : d * (f * a) * b * (g * c) ≡ d * (f * (g * (a * b * c)))
    left = simp (mul_assoc, mul_comm, mul_left_comm)

    right : d * (f * (g * (x * (y * z)))) ≡ d * f * x * (g * y * z)
    right = simp (mul_assoc, mul_comm, mul_left_comm)

module _ (d up down by taken k : ℕ) (unit : up + 149 + by ≡ taken + (down + k)) where
  tens_cross : d * 10 ^ up * 2 ^ 149 * (5 ^ down * 2 ^ by) ≡ d * 5 ^ up * 2 ^ taken * (10 ^ down * 2 ^ k)
  tens_cross =
      ap (λ (t : ℕ). d * t * 2 ^ 149 * (5 ^ down * 2 ^ by)) (ten_is up)
      ∙ crossed d (5 ^ up) (5 ^ down) (2 ^ up) (2 ^ 149) (2 ^ by) (2 ^ taken) (2 ^ down) (2 ^ k) (twos up 149 by taken down k unit)
      ∙ ap (λ (t : ℕ). d * 5 ^ up * 2 ^ taken * (t * 2 ^ k)) (sym (ten_is down))

  module _ (num den m rest : ℕ) (num_is : num ≡ d * 5 ^ up) (den_is : den ≡ 1 * 5 ^ down * 2 ^ by) (long : num * 2 ^ taken ≡ m * den + rest) (less : rest < den) (few : m < 16777216) (full : (k ≡ 0) ⊎ (8388608 ≤ m)) where
    cross : d * 10 ^ up * 2 ^ 149 * den ≡ num * 2 ^ taken * (10 ^ down * 2 ^ k)
    cross =
        ap (λ (t : ℕ). d * 10 ^ up * 2 ^ 149 * t) (den_is ∙ ap (λ (t : ℕ). t * 2 ^ by) (one-mul (5 ^ down)))
        ∙ tens_cross
        ∙ ap (λ (t : ℕ). t * 2 ^ taken * (10 ^ down * 2 ^ k)) (sym num_is)

    some : 0 < 10 ^ down
    some = ten_le 0 down zero-le

    pub long_bits : (q : ℕ) → q ≡ nearest m (compare (rest * 2) den) → k ≤ 253 → BitsOf (d * 10 ^ up) (10 ^ down) (k * 8388608 + q)
    long_bits q e h =
        record {
          small = most k q h (le_trans (le_of_eq e) (le_trans (nearest-le m (compare (rest * 2) den)) few));
          signed = λ s.
              sym (add_assoc (cond s (2 ^ 31) 0) (k * 8388608) q)
              ∙ ap (λ (x : ℕ). cond s (2 ^ 31) 0 + k * 8388608 + x) e
              ∙ sym (bits_divided s (d * 10 ^ up) (10 ^ down) (num * 2 ^ taken) den m rest k some cross long less full few h);
        }
      where
        most : (k q : ℕ) → k ≤ 253 → q ≤ 16777216 → k * 8388608 + q ≤ 2139095040
        most k q h l = omega arith

    pub long_beyond : 253 < k → BitsOf (d * 10 ^ up) (10 ^ down) 2139095040
    long_beyond h = record { small = omega arith; signed = λ s. sym (bits_beyond s (d * 10 ^ up) (10 ^ down) (num * 2 ^ taken) den m rest k some cross long less full few h) }
