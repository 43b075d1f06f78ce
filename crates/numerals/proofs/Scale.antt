-- One turn of the loop that scales a number to nine digits. Assumes nothing.
use mathlib.Core.Path.{◌≡◌, refl, sym, ap, ◌∙◌, subst}
use mathlib.Core.Bool.{Bool, cond}
use Prim.Native.Nat.{ℕ, zero, suc, ◌+◌, ◌-◌, ◌*◌, ◌/◌, ◌%◌, ◌^◌, ◌≤◌, ◌<◌, suc-le-suc, compare}
use native.Mathlib.Nat.{le_trans, le_of_eq, lt_of_lt_of_le, lt_of_le_of_lt, mul-one, mul_comm, mul_assoc, mul-le-mul_left, mul-le-mul_right, mul-lt-mul_of_pos_right, div-lt_iff_lt-mul, le-div_iff_mul-le, mul-div_cancel, pow-le-pow_right, div-le_self, one-mul, le_of_suc-le-suc, le_of_lt, not-le_of_lt, lt_of_not-le}
use native.Mathlib.Omega.{arith}
use lib.Ieee.Fits.{nearest-le}
use lib.Dec.{eqb, lit<}
use lib.Pow.{pow-add, pow_pos, pow_mono, shl_exact}
use lib.Ieee.Nearest.{closest, closest_same}
use borrow.Author.Tests.{le-leb, lt-leb, ne_eqb}
use Rattle.numerals.specs.Written.{places, nine, plain_decimal}
use Rattle.numerals.specs.inner.Steps.{Nines, Settled}
use Rattle.decimal.proofs.Scale.{ten_is}
use Rattle.numerals.proofs.Tens.{ten_more}

-- ---- the loop: a / den is m * 10 ^ k / 2 ^ shift
pub record Scaling (m shift a den k ten : ℕ) : Type 0 where
  pub top : a ≡ m * 5 ^ k
  pub bottom : den ≡ 2 ^ (shift - k)
  pub within : k ≤ shift
  pub few : k ≤ 15
  pub power : ten ≡ 10 ^ k
  pub rest : places (15 - k) m (2 ^ shift) k ≡ places 15 m (2 ^ shift) 0

pub scale_start : (m shift : ℕ) → Scaling m shift m (2 ^ shift) 0 1
scale_start m shift = record { top = sym (mul-one m); bottom = ap (λ (x : ℕ). 2 ^ x) (sym (none shift)); within = omega arith; few = omega arith; power = refl; rest = refl }
  where
    none : (x : ℕ) → x - 0 ≡ x
    none x = omega arith

module _ (m shift a den k ten : ℕ) (h : Scaling m shift a den k ten) where
  pub den_pos : 0 < den
  den_pos = subst (λ (x : ℕ). 0 < x) (sym h.bottom) (pow_pos (shift - k))

  top_is : a * 2 ^ k ≡ m * 10 ^ k
  top_is = ap (λ (x : ℕ). x * 2 ^ k) h.top ∙ mul_assoc m (5 ^ k) (2 ^ k) ∙ ap (λ (x : ℕ). m * x) (sym (ten_is k))

  bottom_is : den * 2 ^ k ≡ 2 ^ shift
  bottom_is = ap (λ (x : ℕ). x * 2 ^ k) h.bottom ∙ sym (pow-add 2 (shift - k) k) ∙ ap (λ (x : ℕ). 2 ^ x) (join h.within)
    where
      join : k ≤ shift → shift - k + k ≡ shift
      join l = omega arith

  -- too few digits, and enough
  few_digits : a / den < 100000000 → m * 10 ^ k < 10 ^ 8 * 2 ^ shift
  few_digits l =
      lt_of_le_of_lt (le_of_eq (sym top_is))
      (lt_of_lt_of_le (mul-lt-mul_of_pos_right ((div-lt_iff_lt-mul den_pos).0 l) (pow_pos k)) (le_of_eq (mul_assoc (10 ^ 8) den (2 ^ k) ∙ ap (λ (x : ℕ). 10 ^ 8 * x) bottom_is)))

  enough_digits : 100000000 ≤ a / den → 10 ^ 8 * 2 ^ shift ≤ m * 10 ^ k
  enough_digits l =
      le_trans (le_of_eq (sym (mul_assoc (10 ^ 8) den (2 ^ k) ∙ ap (λ (x : ℕ). 10 ^ 8 * x) bottom_is)))
      (le_trans (mul-le-mul_right (2 ^ k) ((le-div_iff_mul-le den_pos).0 l)) (le_of_eq top_is))

  -- a turn has room
  pub before_last : a / den < 100000000 → 10 ^ 8 * 2 ^ shift ≤ m * 10 ^ 15 → k < 15
  before_last l e = lt_of_not-le (λ (g : 15 ≤ k). not-le_of_lt (few_digits l) (subst (λ (x : ℕ). 10 ^ 8 * 2 ^ shift ≤ m * 10 ^ x) (at h.few g) e))
    where
      at : k ≤ 15 → 15 ≤ k → 15 ≡ k
      at x y = omega arith

  pub not_last : a / den < 100000000 → 4 ≤ shift → 8388608 ≤ m → k < shift
  not_last l s b = lt_of_not-le (λ (g : shift ≤ k). not-le_of_lt (few_digits l) (le_trans (mul-le-mul_left (10 ^ 8) (pow_mono g)) (le_trans (mul-le-mul_right (2 ^ k) (many (le_trans s g))) (le_of_eq top_is))))
    where
      many : 4 ≤ k → 10 ^ 8 ≤ a
      many g =
          let x : m * 625 ≤ m * 5 ^ k = mul-le-mul_left m (pow-le-pow_right {n = 5} (lit< tt) {i = 4} g) in
          let e = h.top in
          omega arith

  -- the numbers are small
  pub a_small : (j : ℕ) → k ≤ j → m < 16777216 → a ≤ 16777216 * 5 ^ j
  a_small j l b =
      le_trans (le_of_eq h.top) (le_trans (mul-le-mul_left m (pow-le-pow_right {n = 5} (lit< tt) l)) (mul-le-mul_right (5 ^ j) (le_of_lt b)))

  pub den_small : shift ≤ 43 → den ≤ 2 ^ 43
  den_small l = le_trans (le_of_eq h.bottom) (pow_mono (fit l))
    where
      fit : shift ≤ 43 → shift - k ≤ 43
      fit g = omega arith

  pub ten_small : k < 15 → ten ≤ 10 ^ 14
  ten_small l = le_trans (le_of_eq h.power) (pow-le-pow_right {n = 10} (lit< tt) (le_of_suc-le-suc l))

  -- a turn
  pub scale_turn : a / den < 100000000 → k < 15 → k < shift → Scaling m shift (a * 5) (den / 2) (k + 1) (ten * 10)
  unfolding places
  scale_turn l f w = record {
    top = ap (λ (x : ℕ). x * 5) h.top ∙ mul_assoc m (5 ^ k) 5 ∙ ap (λ (x : ℕ). m * x) (sym (pow-add 5 k 1));
    bottom =
        ap (λ (x : ℕ). x / 2) (h.bottom ∙ ap (λ (x : ℕ). 2 ^ x) (fewer w) ∙ pow-add 2 (shift - (k + 1)) 1)
        ∙ mul-div_cancel (2 ^ (shift - (k + 1))) (lit< tt);
    within = next w;
    few = next f;
    power = ap (λ (x : ℕ). x * 10) h.power ∙ sym (ten_more k);
    rest = passed (15 - (k + 1)) ∙ ap (λ (x : ℕ). places x m (2 ^ shift) k) (sym (left f)) ∙ h.rest;
  }
    where
      fewer : k < shift → shift - k ≡ shift - (k + 1) + 1
      fewer g = omega arith

      next : {j : ℕ} → k < j → k + 1 ≤ j
      next g = omega arith

      left : k < 15 → 15 - k ≡ suc (15 - (k + 1))
      left g = omega arith

      passed : (f : ℕ) → places f m (2 ^ shift) (k + 1) ≡ places (suc f) m (2 ^ shift) k
      passed f = sym (ap (λ (b : Bool). cond b k (places f m (2 ^ shift) (k + 1))) (lt-leb (10 ^ 8 * 2 ^ shift) (m * 10 ^ k) (few_digits l)))

  -- the end
  pub scale_end : 100000000 ≤ a / den → k ≡ places 15 m (2 ^ shift) 0
  unfolding places
  scale_end l = stays (15 - k) ∙ h.rest
    where
      stays : (f : ℕ) → k ≡ places f m (2 ^ shift) k
      stays zero = refl
      stays (suc f) = sym (ap (λ (b : Bool). cond b k (places f m (2 ^ shift) (k + 1))) (le-leb (10 ^ 8 * 2 ^ shift) (m * 10 ^ k) (enough_digits l)))

  pub same_closest : closest a den ≡ closest (m * 10 ^ k) (2 ^ shift)
  same_closest =
      closest_same a den (m * 10 ^ k) (2 ^ shift) den_pos (pow_pos shift)
      (ap (λ (x : ℕ). a * x) (sym bottom_is) ∙ shuffle a den (2 ^ k) ∙ ap (λ (x : ℕ). x * den) top_is)
    where
      shuffle : (x y z : ℕ) → x * (y * z) ≡ x * z * y
      shuffle x y z = simp (mul_assoc, mul_comm)

  pub nines : (d : ℕ) → 100000000 ≤ a / den → d ≡ closest a den → Nines m shift d k ten
  nines d l e = record { places_are = scale_end l; nearest = e ∙ same_closest; few = h.few; power = h.power }

  pub q_small : m < 16777216 → a / den ≤ 16777216 * 5 ^ 15
  q_small b = le_trans (div-le_self a den) (a_small 15 h.few b)

-- ---- a one moved up
pub one_up : (s : ℕ) → s ≤ 43 → 2 ^ s ≡ 1 * 2 ^ s % 2 ^ 64
one_up s l = sym (shl_exact {a = 1} 1 s 64 (lit< tt) (fit s l) ∙ one-mul (2 ^ s))
  where
    fit : (x : ℕ) → x ≤ 43 → 1 + x ≤ 64
    fit x g = omega arith

-- ---- ten digits
module _ (m shift d k ten : ℕ) (h : Nines m shift d k ten) where
  pub some_places : m < 16777216 → d ≡ 1000000000 → 0 < k
  some_places b e = lt_of_not-le (λ (g : k ≤ 0). none (le_trans (le_of_eq (sym e ∙ h.nearest)) (at_none g)))
    where
      none : 1000000000 ≤ 16777217 → ⊥
      none l = omega arith

      zero_of : k ≤ 0 → k ≡ 0
      zero_of l = omega arith

      small : m * 1 ≤ 16777216
      small = omega arith

      at_none : k ≤ 0 → closest (m * 10 ^ k) (2 ^ shift) ≤ 16777217
      at_none l =
          subst (λ (x : ℕ). closest (m * 10 ^ x) (2 ^ shift) ≤ 16777217) (sym (zero_of l))
          (le_trans (nearest-le (m * 1 / 2 ^ shift) (compare (m * 1 % 2 ^ shift * 2) (2 ^ shift))) (suc-le-suc (le_trans (div-le_self (m * 1) (2 ^ shift)) small)))

  pub settled_ten : 0 < k → d ≡ 1000000000 → Settled m shift 100000000 (k - 1) (ten / 10)
  unfolding nine
  settled_ten l e = record {
    text_is =
        ap (λ (x : ℕ). cond (eqb (closest (m * 10 ^ x) (2 ^ shift)) (10 ^ 9)) (plain_decimal (10 ^ 8) (x - 1)) (plain_decimal (closest (m * 10 ^ x) (2 ^ shift)) x)) (sym h.places_are)
        ∙ ap (λ (x : ℕ). cond (eqb x (10 ^ 9)) (plain_decimal (10 ^ 8) (k - 1)) (plain_decimal x k)) (sym h.nearest ∙ e);
    few = less h.few;
    power =
        ap (λ (x : ℕ). x / 10) (h.power ∙ ap (λ (x : ℕ). 10 ^ x) (back l) ∙ ten_more (k - 1))
        ∙ mul-div_cancel (10 ^ (k - 1)) (lit< tt);
  }
    where
      less : k ≤ 15 → k - 1 ≤ 15
      less g = omega arith

      back : 0 < k → k ≡ k - 1 + 1
      back g = omega arith

  pub settled_nine : (d ≡ 1000000000 → ⊥) → Settled m shift d k ten
  unfolding nine
  settled_nine e = record {
    text_is =
        ap (λ (x : ℕ). cond (eqb (closest (m * 10 ^ x) (2 ^ shift)) (10 ^ 9)) (plain_decimal (10 ^ 8) (x - 1)) (plain_decimal (closest (m * 10 ^ x) (2 ^ shift)) x)) (sym h.places_are)
        ∙ ap (λ (x : ℕ). cond (eqb x (10 ^ 9)) (plain_decimal (10 ^ 8) (k - 1)) (plain_decimal x k)) (sym h.nearest)
        ∙ ap (λ (b : Bool). cond b (plain_decimal (10 ^ 8) (k - 1)) (plain_decimal d k)) (ne_eqb d (10 ^ 9) e);
    few = h.few;
    power = h.power;
  }
