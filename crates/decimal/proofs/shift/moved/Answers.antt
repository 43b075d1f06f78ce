-- `decimal::shift::moved` meets its contract: far out the places tell no more, and else what is in both powers goes off. Assumes nothing.
use mathlib.Core.Path.{◌≡◌, sym, ap, ◌∙◌}
use mathlib.Core.Bool.{Bool, true, false, cond}
use Prim.Native.Nat.{ℕ, ◌+◌, ◌-◌, ◌*◌, ◌^◌, ◌≤◌, ◌<◌}
use native.Mathlib.Omega.{arith}
use lib.Ieee.{Float, binary32, round}
use Rattle.decimal.specs.inner.Counted.{Saturates, MovedIs}
use Rattle.decimal.proofs.Moves.{same_place, far_up, far_down, told_far, told_near}
use Rattle.decimal.proofs.shift.moved.Goals as goal

-- ---- down
module _ (neg : Bool) (v z k power : ℕ) (lower : Bool) (t : lower ≡ true) (h : z < 2 ^ 63) where
  down_by : (r : Float) → ((e : ℕ) → Saturates power e → r ≡ round binary32 neg (v * 10 ^ z) (10 ^ (k + e))) → MovedIs neg v z k power lower r
  down_by r f e s = f e s ∙ ap (λ (x : Bool). cond x (round binary32 neg (v * 10 ^ z) (10 ^ (k + e))) (round binary32 neg (v * 10 ^ (z + e)) (10 ^ k))) (sym t)

  far_below : v < 2 ^ 64 → z + 100 < power → MovedIs neg v z k power lower (round binary32 neg (v * 10 ^ 0) (10 ^ 100))
  far_below g l = down_by _ (λ (e : ℕ) (s : Saturates power e). sym (far_down neg v z (k + e) g (more (told_far z power e h l s))))
    where
      more : {e : ℕ} → z + 100 < e → z + 100 < k + e
      more {e} m = omega arith

  below : (up down : ℕ) → power ≤ z + 100 → up ≡ z - power → down ≡ power - z → MovedIs neg v z k power lower (round binary32 neg (v * 10 ^ up) (10 ^ (k + down)))
  below up down l a b = down_by _ (λ (e : ℕ) (s : Saturates power e). same_place neg v up (k + down) z (k + e) (level e (told_near z power e h l s)))
    where
      level : (e : ℕ) → power ≡ e → up + (k + e) ≡ z + (k + down)
      level e m = omega arith

-- ---- up
module _ (neg : Bool) (v z k power : ℕ) (lower : Bool) (t : lower ≡ false) (h : k < 2 ^ 63) where
  up_by : (r : Float) → ((e : ℕ) → Saturates power e → r ≡ round binary32 neg (v * 10 ^ (z + e)) (10 ^ k)) → MovedIs neg v z k power lower r
  up_by r f e s = f e s ∙ ap (λ (x : Bool). cond x (round binary32 neg (v * 10 ^ z) (10 ^ (k + e))) (round binary32 neg (v * 10 ^ (z + e)) (10 ^ k))) (sym t)

  far_above : k + 100 < power → MovedIs neg v z k power lower (round binary32 neg (v * 10 ^ 100) (10 ^ 0))
  far_above l = up_by _ (λ (e : ℕ) (s : Saturates power e). sym (far_up neg v (z + e) k (more (told_far k power e h l s))))
    where
      more : {e : ℕ} → k + 100 < e → k + 100 < z + e
      more {e} m = omega arith

  above : (up down : ℕ) → power ≤ k + 100 → up ≡ power - k → down ≡ k - power → MovedIs neg v z k power lower (round binary32 neg (v * 10 ^ (z + up)) (10 ^ down))
  above up down l a b = up_by _ (λ (e : ℕ) (s : Saturates power e). same_place neg v (z + up) down (z + e) k (level e (told_near k power e h l s)))
    where
      level : (e : ℕ) → power ≡ e → z + up + k ≡ z + e + down
      level e m = omega arith

pub returns-then-zeros-power : goal.returns-then-zeros-power
returns-then-zeros-power c = λ e s. c.nearest_long.ensures ∙ far_below _ _ _ _ _ _ c.if-lower.true c.requires.0 (omega arith) c.if-zeros-power.true e s

pub overflow_add-places : goal.overflow_add-places
overflow_add-places c = let e = c.cancelled-by.ensures in record { fits = omega (arith, e.down_is) }

pub returns-then-lower : goal.returns-then-lower
returns-then-lower c =
    let l = c.cancelled-by in
    λ e s. c.nearest_long-then-lower.ensures
    ∙ below _ _ _ _ _ _ c.if-lower.true c.requires.0 l.result.up l.result.down c.if-zeros-power.false l.ensures.up_is l.ensures.down_is e s

pub returns-then-places-power : goal.returns-then-places-power
returns-then-places-power c = λ e s. c.nearest_long-then-places-power.ensures ∙ far_above _ _ _ _ _ _ c.if-lower.false c.requires.1 c.if-places-power.true e s

pub overflow_add-zeros-2 : goal.overflow_add-zeros-2
overflow_add-zeros-2 c = let e = c.cancelled-by-2.ensures in record { fits = omega (arith, e.up_is) }

pub returns : goal.returns
returns c =
    let l = c.cancelled-by-2 in
    λ e s. c.nearest_long-2.ensures
    ∙ above _ _ _ _ _ _ c.if-lower.false c.requires.1 l.result.up l.result.down c.if-places-power.false l.ensures.up_is l.ensures.down_is e s
