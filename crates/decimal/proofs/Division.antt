-- One turn of the division, and how few turns there are. Assumes nothing.
use mathlib.Core.Path.{◌≡◌, sym, ap, ◌∙◌}
use Prim.Native.Nat.{ℕ, ◌+◌, ◌-◌, ◌*◌, ◌^◌, ◌≤◌, ◌<◌}
use native.Mathlib.Nat.{le_trans, le_of_eq, lt_of_lt_of_le, lt_of_not-le, not-le_of_lt, one-mul, mul_assoc, mul_right_comm, add-mul, mul-le-mul_left, mul-le-mul_right}
use native.Mathlib.Omega.{arith}
use lib.Arith.{digits_lt}
use lib.Pow.{pow-add, pow_mono}

-- ---- how often a number is doubled
pub few : (p x k n : ℕ) → 0 < p → p * 2 ^ x ≡ n → n < 2 ^ k → x < k
few p x k n h e l = lt_of_not-le (λ (g : k ≤ x). not-le_of_lt l (le_trans (pow_mono g) (le_trans (under p (2 ^ x) h) (le_of_eq e))))
  where
    under : (p x : ℕ) → 0 < p → x ≤ p * x
    under p x h = le_trans (le_of_eq (sym (one-mul x))) (mul-le-mul_right x h)

-- num has 64 digits and den fewer: a quotient of 23 digits is reached before 23 doublings
pub down_few : (num den m rest down : ℕ) → 2 ^ 63 ≤ num → num * 2 ^ down ≡ m * den + rest → rest < den → m < 8388608 → den < 2 ^ 63 → down < 23
down_few num den m rest down h e r l b =
    lt_of_not-le (λ (g : 23 ≤ down). not-le_of_lt (lt_of_lt_of_le (digits_lt l r) (mul-le-mul_left 8388608 (below den b)))
    (le_trans (le_trans (mul-le-mul_left (2 ^ 63) (pow_mono {i = 23} {j = down} g)) (mul-le-mul_right (2 ^ down) h)) (le_of_eq e)))
  where
    below : (x : ℕ) → x < 2 ^ 63 → x ≤ 2 ^ 63
    below x h = omega arith

-- ---- a turn of the division
pub flat : (num den m rest down : ℕ) → num * 2 ^ down ≡ m * den + rest → num * 2 ^ (down + 1) ≡ m * 2 * den + rest * 2
flat num den m rest down e =
    let t : num * 2 ^ (down + 1) ≡ num * 2 ^ down * 2 = ap (λ (x : ℕ). num * x) (pow-add 2 down 1) ∙ sym (mul_assoc num (2 ^ down) 2) in
    let s : m * 2 * den ≡ m * den * 2 = mul_right_comm m 2 den in
    omega arith

pub over : (num den m rest down : ℕ) → num * 2 ^ down ≡ m * den + rest → den ≤ rest * 2 → num * 2 ^ (down + 1) ≡ (m * 2 + 1) * den + (rest * 2 - den)
over num den m rest down e l =
    let t : num * 2 ^ (down + 1) ≡ m * 2 * den + rest * 2 = flat num den m rest down e in
    let s : (m * 2 + 1) * den ≡ m * 2 * den + 1 * den = add-mul (m * 2) 1 den in
    omega arith

-- ---- the division of a number that was moved up
pub moved_long : (d num zeros den m rest down : ℕ) → num ≡ d * 2 ^ zeros → num * 2 ^ down ≡ m * den + rest → d * 2 ^ (zeros + down) ≡ m * den + rest
moved_long d num zeros den m rest down is e =
    ap (λ (x : ℕ). d * x) (pow-add 2 zeros down) ∙ sym (mul_assoc d (2 ^ zeros) (2 ^ down)) ∙ ap (λ (x : ℕ). x * 2 ^ down) (sym is) ∙ e
