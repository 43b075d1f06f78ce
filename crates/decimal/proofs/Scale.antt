-- The divisor: a power of five, doubled until the shifted digits over it have 24 binary digits; and tens as fives and twos. Assumes nothing.
use mathlib.Core.Path.{◌≡◌, refl, sym, ap, ◌∙◌, subst}
use Prim.Native.Nat.{ℕ, zero, suc, ◌+◌, ◌-◌, ◌*◌, ◌%◌, ◌^◌, ◌≤◌, ◌<◌}
use native.Mathlib.Nat.{lt_of_le_of_lt, mod-eq_of_lt, mul_assoc, mul_left_comm, mul-le-mul_right, mul-one, lt_of_lt_of_le, le_trans, le_of_eq, pow-le-pow_right, pow-succ'}
use native.Mathlib.Omega.{arith}
use lib.Count.{count_leading_zeros, leading_top}
use lib.Dec.{lit<}
use lib.Pow.{pow-add, pow_mono, shl_lt}
use Rattle.decimal.specs.inner.Steps.{DoublesTo, ScalesTo, FitsTo}

-- ---- powers keep order
pub five_le : (n k : ℕ) → n ≤ k → 5 ^ n ≤ 5 ^ k
five_le n k h = pow-le-pow_right (lit< tt) h

pub ten_le : (n k : ℕ) → n ≤ k → 10 ^ n ≤ 10 ^ k
ten_le n k h = pow-le-pow_right (lit< tt) h

-- ---- a number moved up to 40 digits, or left where it has more
module _ (five : ℕ) (p : 0 < five) (h : five < 2 ^ 63) where
  abbrev z : ℕ
  z = count_leading_zeros 64 five

  pub reaches : 24 ≤ z → DoublesTo five (z - 24)
  reaches l =
      let t = leading_top 64 five p (lt_of_lt_of_le h (pow_mono {i = 63} {j = 64} (omega arith))) in
      let j = t.0 in
      let e : z + suc j ≡ 64 = t.1 in
      let lo : 2 ^ j ≤ five = t.2 in
      let hi : five < 2 ^ suc j = t.3 in
      let e1 : j + (z - 24) ≡ 39 = omega arith in
      let e2 : suc j + (z - 24) ≡ 40 = omega arith in
      let top : five * 2 ^ (z - 24) < 2 ^ 40 = subst (λ (x : ℕ). five * 2 ^ (z - 24) < 2 ^ x) e2 (shl_lt (suc j) (z - 24) hi) in
      record {
        lo = subst (λ (x : ℕ). x ≤ five * 2 ^ (z - 24)) (sym (pow-add 2 j (z - 24)) ∙ ap (λ (x : ℕ). 2 ^ x) e1) (mul-le-mul_right (2 ^ (z - 24)) lo);
        hi = lt_of_lt_of_le top (pow_mono {i = 40} {j = 63} (omega arith));
        few = omega arith;
      }

  pub has_reached : z < 24 → DoublesTo five 0
  has_reached l =
      let t = leading_top 64 five p (lt_of_lt_of_le h (pow_mono {i = 63} {j = 64} (omega arith))) in
      let e : z + suc t.0 ≡ 64 = t.1 in
      let q : 2 ^ 39 ≤ five = le_trans (pow_mono {i = 39} {j = t.0} (omega arith)) t.2 in
      record { lo = le_trans q (le_of_eq (sym (mul-one five))); hi = subst (λ (x : ℕ). x < 2 ^ 63) (sym (mul-one five)) h; few = omega arith }

-- ---- so moved nothing is cut off
module _ (five up : ℕ) (r : DoublesTo five up) where
  pub shifted_is : five * 2 ^ up % 2 ^ 64 ≡ five * 2 ^ up
  shifted_is = mod-eq_of_lt (lt_of_lt_of_le r.hi (pow_mono {i = 63} {j = 64} (omega arith)))

  -- and once more, or not
  pub scaled_is : (num den by : ℕ) → FitsTo num (five * 2 ^ up % 2 ^ 64) den by → ScalesTo num five den (up + by)
  scaled_is num den by f =
      let above = f.above in
      record {
        is = f.is ∙ ap (λ (x : ℕ). x * 2 ^ by) shifted_is ∙ mul_assoc five (2 ^ up) (2 ^ by) ∙ ap (λ (x : ℕ). five * x) (sym (pow-add 2 up by));
        some = omega arith;
        bound = f.bound;
        above = f.above;
        few = most up by r.few f.once;
      }
    where
      most : (x y : ℕ) → x ≤ 39 → y ≤ 1 → x + y ≤ 40
      most x y h l = omega arith

-- ---- tens are fives and twos
pub ten_is : (k : ℕ) → 10 ^ k ≡ 5 ^ k * 2 ^ k
ten_is zero = refl
ten_is (suc k) = simp (pow-succ', ten_is k) (five_two (5 ^ k) (2 ^ k))
  where
    five_two : (x y : ℕ) → 10 * (x * y) ≡ 5 * x * (2 * y)
    five_two x y = omega arith

pub ten_shifted : (k five : ℕ) → five ≡ 5 ^ k → k ≤ 7 → five * 2 ^ k % 2 ^ 64 ≡ 10 ^ k
ten_shifted k five h l =
    let e : five * 2 ^ k ≡ 10 ^ k = ap (λ (x : ℕ). x * 2 ^ k) h ∙ sym (ten_is k) in
    ap (λ (x : ℕ). x % 2 ^ 64) e ∙ mod-eq_of_lt (lt_of_le_of_lt (ten_le k 7 l) (lit< tt))

-- ---- the unit of the quotient: 2 ^ 149 of a den for each 2 ^ x of a p
pub unit_is : (k den up x : ℕ) → den ≡ 5 ^ k * 2 ^ up → k + x ≡ 149 + up → 2 ^ 149 * den ≡ 10 ^ k * 2 ^ x
unit_is k den up x is e =
    ap (λ (y : ℕ). 2 ^ 149 * y) is
    ∙ mul_left_comm (2 ^ 149) (5 ^ k) (2 ^ up)
    ∙ ap (λ (y : ℕ). 5 ^ k * y) (sym (pow-add 2 149 up) ∙ ap (λ (y : ℕ). 2 ^ y) (sym e) ∙ pow-add 2 k x)
    ∙ sym (mul_assoc (5 ^ k) (2 ^ k) (2 ^ x))
    ∙ ap (λ (y : ℕ). y * 2 ^ x) (sym (ten_is k))
