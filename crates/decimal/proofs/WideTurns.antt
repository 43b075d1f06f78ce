-- The loops of the long division, turn by turn: a number times k, doubled past another, one more digit of a quotient. Assumes nothing.
use mathlib.Core.Path.{◌≡◌, refl, sym, ap, ◌∙◌}
use Prim.Native.Nat.{ℕ, ◌+◌, ◌*◌, ◌/◌, ◌%◌, ◌^◌, ◌≤◌, ◌<◌}
use native.Mathlib.Nat.{mul_assoc, mul-le-mul_left, le_trans, le_of_eq, lt_of_le_of_lt}
use native.Mathlib.Omega.{arith}
use Rattle.decimal.specs.declared.three_words.Wide.{Wide}
use Rattle.decimal.specs.inner.Wide.{word, wide, value_of, Roomy, OneMore}
use Rattle.decimal.proofs.Division.{few}
use Rattle.decimal.proofs.Scale.{five_le}
use Rattle.decimal.proofs.Words.{roomy_hi}

-- ---- in a loop: times k at each turn
pub one_word : (d : ℕ) → wide 0 (d / word) (d % word) ≡ d
unfolding wide
one_word d = omega arith

pub times_again : (d k p p' v v' : ℕ) → p' ≡ p * k → v ≡ d * p → v' ≡ v * k → v' ≡ d * p'
times_again d k p p' v v' e w h = h ∙ ap (λ (x : ℕ). x * k) w ∙ mul_assoc d p k ∙ ap (λ (x : ℕ). d * x) (sym e)

pub fives_room : (d i n : ℕ) → i ≤ n → Roomy (d * 5 ^ n) → Roomy (d * 5 ^ i)
unfolding Roomy
fives_room d i n h r = lt_of_le_of_lt (mul-le-mul_left d (five_le i n h)) r

-- ---- doubled until it is more than num
-- no more than num: it is doubled fewer than 180 times, its first word is below 2 ^ 60, and below 2 ^ 61 when it is doubled once more
pub raised_few : (num den up d : ℕ) → d ≡ den * 2 ^ up → 0 < den → Roomy num → d ≤ num → up < 180
unfolding Roomy
raised_few num den up d e some r h = few den up 180 (den * 2 ^ up) some refl (lt_of_le_of_lt (le_trans (le_of_eq (sym e)) h) r)

pub raised_hi : (w : Wide) (num : ℕ) → Roomy num → value_of w ≤ num → w.hi < word
unfolding Roomy
raised_hi w num r h = roomy_hi w (value_of w) refl (lt_of_le_of_lt h r)

-- ---- one more digit of a quotient
pub digit_zero : (m rest den two : ℕ) → m < 8388608 → two ≡ rest * 2 → two < den → OneMore m rest den (m * 2) two
digit_zero m rest den two h e l = record { is = ap (λ (x : ℕ). m * 2 * den + x) (sym e); less = l; hi = omega arith }

pub digit_one : (m rest den two left : ℕ) → m < 8388608 → rest < den → two ≡ rest * 2 → left + den ≡ two → OneMore m rest den (m * 2 + 1) left
digit_one m rest den two left h l e f = record { is = omega arith; less = omega arith; hi = omega arith }
