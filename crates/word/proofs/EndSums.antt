-- Sums against f32 in units of 2^-149, the numbers that proofs/RightEnd needs of them, and clamping. Assumes nothing.
use mathlib.Core.Path.{◌≡◌, refl, ap, ◌∙◌}
use mathlib.Core.Logic.{◌⊎◌, inl, inr}
use mathlib.Core.Bool.{Bool, true, false, cond}
use Prim.Native.Nat.{ℕ, suc, ◌+◌, ◌-◌, ◌*◌, ◌/◌, ◌^◌, ◌≤◌, ◌<◌}
use native.Mathlib.Nat.{le_trans as le_trans_ℕ, lt_of_le_of_lt, mul-le-mul_right, le_of_mul-le-mul_right, lt_of_mul-lt-mul_right}
use native.Mathlib.Omega.{arith}
use lib.Dec.{T, lit≤}
use lib.Pow.{pow_pos}
use lib.Ieee.{lt, Float, binary32, fits, of_bits, round, neg, sub, add, le}
use lib.Ieee.Positive.{den}
use lib.Ieee.Scale.{finite}
use Rattle.float.specs.F32.{◌⊕◌, ◌⊖◌, f0, f1}
use Rattle.float.specs.Number.{clamp_of}
use Rattle.float.proofs.Order as order
use Rattle.float.proofs.Rounding.{dens_pos}
use Rattle.float.proofs.SignedRound.{pro, con, add_rounds}
use Rattle.float.proofs.Spans.{rounded_above}
use Rattle.float.proofs.UnitSums.{Counted}
use Rattle.word.specs.Word.{tame}
use Rattle.ordinary.proofs.Grid.{div_below, div_above}

-- ---- a sum is no less than z, as UnitSums has it of no more
over : (a u p c g k : ℕ) → a * u ≡ p * c → c * g ≡ k → a * g * u ≡ p * k
over a u p c g k e h = let l : a * g * u ≡ p * (c * g) = omega (arith, ap (λ (x : ℕ). x * g) e) in l ∙ ap (λ (x : ℕ). p * x) h

cancelled : (a d j i b e k u p q o r n m : ℕ) → 0 < u → a * u ≡ p * k → d * u ≡ q * k → j * u ≡ o * k → i * u ≡ r * k → b * u ≡ n * k → e * u ≡ m * k → r + n + m ≤ p + q + o → i + b + e ≤ a + d + j
cancelled a d j i b e k u p q o r n m U ea ed ej ei eb ee h = let l : (r + n + m) * k ≤ (p + q + o) * k = mul-le-mul_right k h in le_of_mul-le-mul_right {k = u} (omega arith) U

fractions : (a b c d e f i j l p n q m r o u : ℕ) → 0 < u → a * u ≡ p * c → b * u ≡ n * c → d * u ≡ q * f → e * u ≡ m * f → i * u ≡ r * l → j * u ≡ o * l → r + n + m ≤ p + q + o
    → i * (c * f) + (b * f + e * c) * l ≤ (a * f + d * c) * l + j * (c * f)
fractions a b c d e f i j l p n q m r o u U ea eb ed ee ei ej h =
    let k = c * f * l in
    let cf : c * (f * l) ≡ k = omega arith in
    let fc : f * (c * l) ≡ k = omega arith in
    let lc : l * (c * f) ≡ k = omega arith in
    let w = cancelled (a * (f * l)) (d * (c * l)) (j * (c * f)) (i * (c * f)) (b * (f * l)) (e * (c * l)) k u p q o r n m U
    (over a u p c (f * l) k ea cf) (over d u q f (c * l) k ed fc) (over j u o l (c * f) k ej lc) (over i u r l (c * f) k ei lc) (over b u n c (f * l) k eb cf) (over e u m f (c * l) k ee fc) h in
    omega (arith, w)

pub sum_over : (x y z : Float) (p n q m r o : ℕ) → Counted x p n → Counted y q m → Counted z r o → r + n + m ≤ p + q + o → T (le z (x ⊕ y))
sum_over x y z p n q m r o h k w l =
    rounded_above z (x ⊕ y) w.single w.whole _ _ _ (add_rounds x y h.whole k.whole) (dens_pos x y)
    (fractions (pro x) (con x) (den x) (pro y) (con y) (den y) (pro z) (con z) (den z) p n q m r o (2 ^ 149) (pow_pos 149) h.up h.down k.up k.down w.up w.down l)

-- ---- the constants
-- 2^-10 + 2^-22
abbrev pub slack : Float
slack = of_bits binary32 0x3a80_0800

pub zero_units : Counted f0 0 0
unfolding of_bits fits
zero_units = record { whole = tt; single = tt; up = refl; down = refl }

pub one_units : Counted f1 (2 ^ 149) 0
unfolding of_bits fits
one_units = record { whole = tt; single = tt; up = refl; down = refl }

pub tame_units : Counted tame (16382 * 2 ^ 149) 0
unfolding of_bits fits
tame_units = record { whole = tt; single = tt; up = refl; down = refl }

pub slack_units : Counted slack (8194 * 2 ^ 126) 0
unfolding of_bits fits
slack_units = record { whole = tt; single = tt; up = refl; down = refl }

pub finite-tame : T (finite tame) × T (finite (neg tame)) × T (finite (tame ⊖ neg tame)) × T (finite (neg tame ⊖ tame))
unfolding of_bits neg sub add round
finite-tame = (tt, tt, tt, tt)

-- ---- numbers
module _ (Q P N U G H : ℕ) (e_u : U ≡ 1024 * G) (high : P + 0 ≤ 16382 * U + N) where
  pub at-is : P + (Q + N + 16777216 * G - P) ≡ Q + N + 16777216 * G
  at-is = omega arith

  pub at_low : 2048 * G ≤ Q + N + 16777216 * G - P
  at_low = omega arith

  pub at_high : Q + 0 ≤ U + 0 → 0 + N ≤ P + 16382 * U → Q + N + 16777216 * G - P ≤ 33553408 * G
  at_high one low = omega arith

pub step_low : (x g : ℕ) → 2048 * g ≤ x → 0 < g → 0 < x / g
step_low x g h G = let l : 2048 < suc (x / g) = lt_of_mul-lt-mul_right g (lt_of_le_of_lt h (div_above x g G)) in omega arith

pub step_high : (x g m : ℕ) → x ≤ m * g → 0 < g → x / g ≤ m
step_high x g m h G = le_of_mul-le-mul_right {k = g} (le_trans_ℕ (div_below x g G) h) G

pub right_room : (j g w : ℕ) → j ≤ 33553409 → 2 * g ≤ w → j * g ≤ 16777216 * g + 9861785 * w
right_room j g w h k = let l : j * g ≤ 33553409 * g = mul-le-mul_right g h in omega arith

pub left_room : (j g w : ℕ) → 2 * g ≤ w → 16777216 * g ≤ j * g + 9861785 * w
left_room j g w k = omega arith

pub few : (k h w : ℕ) → k ≤ 8396801 → 0 < h → 16777216 * h ≤ w → k * h < w
few k h w l H e = let m : k * h ≤ 8396801 * h = mul-le-mul_right h l in omega arith

pub small : (k : ℕ) → k ≤ 8396801 → k < 2 ^ 24
small k l = omega arith

pub plain : (p n : ℕ) → (p ≡ 0) ⊎ (n ≡ 0) → 0 + n ≤ p + 0 → n ≡ 0
plain p n (inl e) h = omega arith
plain p n (inr e) h = e

pub sizes : (2 ^ 149 ≡ 1024 * 2 ^ 139) × (2 ^ 139 ≡ 8192 * 2 ^ 126) × (2 * 2 ^ 139 ≤ 2 ^ 252) × (16777216 * 2 ^ 126 ≤ 2 ^ 277)
sizes = (refl, refl, lit≤ tt, lit≤ tt)

-- what is summed, against the grid: a is a point of it, p - n its units, and x = Q + N - P + 2^24 G
module _ (Q P N G x j : ℕ) (is : P + x ≡ Q + N + 16777216 * G) where
  pub under_sum : (p n : ℕ) → p + 16777216 * G ≡ j * G + n → j * G ≤ x → p + 0 + P ≤ Q + N + n
  under_sum p n e l = omega arith

  pub over_sum : (p n : ℕ) → p + 16777216 * G ≡ suc j * G + n → x < suc j * G → Q + N + n ≤ p + 0 + P
  over_sum p n e l = omega arith

  pub above_q : (p n k : ℕ) → p + 16777216 * G ≡ suc j * G + n → j * G ≤ x → Q + G < k → P + p + 0 ≤ k + N + n
  above_q p n k e l h = omega arith

  pub below_q : (p n k : ℕ) → p + 16777216 * G ≡ j * G + n → x < suc j * G → k + G ≤ Q → k + N + n ≤ P + p + 0
  below_q p n k e l h = omega arith

pub steps : (Q U G H : ℕ) → U ≡ 1024 * G → G ≡ 8192 * H → Q + 0 ≤ U + 0 → Q + G ≤ 8396800 * H
steps Q U G H e f h = omega arith

-- how far the multiples of H beside q lie from it
pub under_slack : (Q G H k : ℕ) → G ≡ 8192 * H → Q - G < suc k * H → Q + 0 + 0 ≤ 8194 * H + 0 + k * H
under_slack Q G H k e h = omega arith

pub over_slack : (Q G H k : ℕ) → G ≡ 8192 * H → k * H ≤ Q + G → 0 + 0 + suc k * H ≤ Q + 0 + 8194 * H
over_slack Q G H k e h = omega arith

-- ---- clamping
pub clamp_id : (x : Float) → T (le f0 x) → T (le x f1) → clamp_of x ≡ x
unfolding clamp_of
clamp_id x a b = rw (order.not_lt_from_le x f0 a, order.not_lt_from_le f1 x b)

pub clamp_under : (x : Float) → T (le f0 x) → T (le (clamp_of x) x)
unfolding clamp_of
clamp_under x a = go (lt f1 x) refl
  where
    go : (b : Bool) → lt f1 x ≡ b → T (le (cond (lt x f0) f0 (cond b f1 x)) x)
    go true e = rw (order.not_lt_from_le x f0 a) (order.lt→le f1 x (order.as_T (lt f1 x) e))
    go false e = rw (order.not_lt_from_le x f0 a) (order.le_refl x (order.no_nan_r f0 x a))
