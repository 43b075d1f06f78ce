-- The point moved: by as many places up and down nothing changes; a number of 64 binary digits is beyond every f32, or nothing, when it is moved far. Assumes nothing.
use mathlib.Core.Path.{◌≡◌, sym, ap, ◌∙◌}
use mathlib.Core.Logic.{inl, inr}
use mathlib.Core.Bool.{Bool}
use Prim.Native.Nat.{ℕ, zero, suc, ◌+◌, ◌*◌, ◌^◌, ◌≤◌, ◌<◌, zero-le}
use native.Mathlib.Nat.{le_trans, le_of_eq, le_of_lt, one-mul, mul_assoc, mul_comm, mul_right_comm, zero-mul, mul-le-mul_right}
use native.Mathlib.Omega.{arith}
use lib.Dec.{lit≤}
use lib.Pow.{pow-add}
use lib.Ieee.{binary32, inf, round}
use lib.Ieee.Scale.{round_same}
use Rattle.decimal.specs.inner.Counted.{huge, Saturates}
use Rattle.decimal.proofs.Rounds.{vast, tiny}
use Rattle.decimal.proofs.Scale.{ten_le}

pub ten_pos : (k : ℕ) → 0 < 10 ^ k
ten_pos k = ten_le 0 k zero-le

-- ---- as many up as down
pub same_place : (s : Bool) (d up down up' down' : ℕ) → up + down' ≡ up' + down → round binary32 s (d * 10 ^ up) (10 ^ down) ≡ round binary32 s (d * 10 ^ up') (10 ^ down')
same_place s d up down up' down' e =
    round_same binary32 s (d * 10 ^ up) (10 ^ down) (d * 10 ^ up') (10 ^ down') (ten_pos down) (ten_pos down')
    (mul_assoc d (10 ^ up) (10 ^ down') ∙ ap (λ (x : ℕ). d * x) (sym (pow-add 10 up down') ∙ ap (λ (x : ℕ). 10 ^ x) e ∙ pow-add 10 up' down) ∙ sym (mul_assoc d (10 ^ up') (10 ^ down)))

-- ---- far down: nothing
pub nothing : (s : Bool) (d up down : ℕ) → d < 2 ^ 64 → up + 65 ≤ down → round binary32 s (d * 10 ^ up) (10 ^ down) ≡ round binary32 s 0 1
nothing s d up down h l =
    tiny s (d * 10 ^ up) (10 ^ down)
    (le_trans (le_of_eq (mul_right_comm d (10 ^ up) (2 ^ 150)))
    (le_trans (mul-le-mul_right (10 ^ up) (le_trans (mul-le-mul_right (2 ^ 150) (le_of_lt h)) (lit≤ {n = 10 ^ 65} tt)))
    (le_trans (le_of_eq (mul_comm (10 ^ 65) (10 ^ up) ∙ sym (pow-add 10 up 65))) (ten_le (up + 65) down l))))
    (ten_pos down)

-- ---- far up: beyond
pub beyond : (s : Bool) (d up down : ℕ) → 0 < d → down + 39 ≤ up → round binary32 s (d * 10 ^ up) (10 ^ down) ≡ inf s
beyond s d up down h l =
    vast s (d * 10 ^ up) (10 ^ down) (ten_pos down)
    (le_trans (mul-le-mul_right (10 ^ down) (lit≤ {m = 2 ^ 128} {n = 10 ^ 39} tt))
    (le_trans (le_of_eq (mul_comm (10 ^ 39) (10 ^ down) ∙ sym (pow-add 10 down 39)))
    (le_trans (ten_le (down + 39) up l) (le_trans (le_of_eq (sym (one-mul (10 ^ up)))) (mul-le-mul_right (10 ^ up) h)))))

pub zero_place : (s : Bool) (up down up' down' : ℕ) → round binary32 s (0 * 10 ^ up) (10 ^ down) ≡ round binary32 s (0 * 10 ^ up') (10 ^ down')
zero_place s up down up' down' =
    round_same binary32 s (0 * 10 ^ up) (10 ^ down) (0 * 10 ^ up') (10 ^ down') (ten_pos down) (ten_pos down')
    (ap (λ (x : ℕ). x * 10 ^ down') (zero-mul (10 ^ up) ∙ sym (zero-mul (10 ^ up'))) ∙ none (10 ^ up') (10 ^ down') (10 ^ down))
  where
    none : (x y z : ℕ) → 0 * x * y ≡ 0 * x * z
    none x y z = omega arith

-- 100 places up tell as much as more
pub far_up : (s : Bool) (d up down : ℕ) → down + 100 < up → round binary32 s (d * 10 ^ up) (10 ^ down) ≡ round binary32 s (d * 10 ^ 100) (10 ^ 0)
far_up s zero up down l = zero_place s up down 100 0
far_up s (suc d) up down l = beyond s (suc d) up down (omega arith) (omega arith) ∙ sym (beyond s (suc d) 100 0 (omega arith) (omega arith))

pub far_down : (s : Bool) (d up down : ℕ) → d < 2 ^ 64 → up + 100 < down → round binary32 s (d * 10 ^ up) (10 ^ down) ≡ round binary32 s (d * 10 ^ 0) (10 ^ 100)
far_down s d up down h l = nothing s d up down h (less up down l) ∙ sym (nothing s d 0 100 h (lit≤ tt))
  where
    less : (x y : ℕ) → x + 100 < y → x + 65 ≤ y
    less x y g = omega arith

-- ---- a power that is told
pub told_far : (n power e : ℕ) → n < 2 ^ 63 → n + 100 < power → Saturates power e → n + 100 < e
told_far n power e h l (inl f) = omega arith
told_far n power e h l (inr f) = omega arith

pub told_near : (n power e : ℕ) → n < 2 ^ 63 → power ≤ n + 100 → Saturates power e → power ≡ e
told_near n power e h l (inl f) = f
told_near n power e h l (inr f) = absurd (never n power h l f.0)
  where
    never : (n power : ℕ) → n < 2 ^ 63 → power ≤ n + 100 → huge ≤ power → ⊥
    never n power h l g = omega arith
