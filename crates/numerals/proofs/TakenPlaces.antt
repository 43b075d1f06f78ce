-- How many places are taken: the fewest that give nine digits. Assumes nothing.
use mathlib.Core.Path.{◌≡◌, sym, ap, ◌∙◌, subst}
use mathlib.Core.Bool.{Bool, true, false, cond, not}
use Prim.Native.Nat.{ℕ, zero, suc, ◌+◌, ◌-◌, ◌*◌, ◌^◌, ◌≤◌, ◌<◌}
use native.Mathlib.Nat.{lt_irrefl, add-zero, mul_assoc}
use native.Mathlib.Omega.{arith}
use lib.Dec.{T, leb, ltb, leb→le, nleb→lt, ltb→lt, nltb→le}
use Rattle.numerals.specs.Written.{places}
use Rattle.numerals.proofs.Tens.{ten_more}

pub record Places (f num den from k : ℕ) : Type 0 where
  pub reach : 10 ^ 8 * den ≤ num * 10 ^ k
  pub first : from ≤ k
  pub last : k ≤ from + f
  pub least : from < k → num * 10 ^ (k - 1) < 10 ^ 8 * den

-- at a place that is enough, and at one that is not
here : (f num den from : ℕ) → 10 ^ 8 * den ≤ num * 10 ^ from → Places f num den from from
here f num den from h = record { reach = h; first = omega arith; last = omega arith; least = λ l. absurd (lt_irrefl from l) }

later : (f num den from k : ℕ) → num * 10 ^ from < 10 ^ 8 * den → Places f num den (from + 1) k → Places (suc f) num den from k
later f num den from k h r = record { reach = r.reach; first = omega arith; last = omega arith; least = λ l. go (ltb (from + 1) k) (ltb→lt (from + 1) k) (nltb→le (from + 1) k) }
  where
    go : (b : Bool) → (T b → from + 1 < k) → (T (not b) → k ≤ from + 1) → num * 10 ^ (k - 1) < 10 ^ 8 * den
    go true a b = r.least (a tt)
    go false a b =
        let e : from ≡ k - 1 = back r.first (b tt) in
        subst (λ (x : ℕ). num * 10 ^ x < 10 ^ 8 * den) e h
      where
        back : from + 1 ≤ k → k ≤ from + 1 → from ≡ k - 1
        back x y = omega arith

pub places_are : (f num den from : ℕ) → 10 ^ 8 * den ≤ num * 10 ^ (from + f) → Places f num den from (places f num den from)
unfolding places
places_are zero num den from h = here 0 num den from (subst (λ (x : ℕ). 10 ^ 8 * den ≤ num * 10 ^ x) (add-zero from) h)
places_are (suc f) num den from h =
    go (leb (10 ^ 8 * den) (num * 10 ^ from)) (leb→le (10 ^ 8 * den) (num * 10 ^ from)) (nleb→lt (10 ^ 8 * den) (num * 10 ^ from))
    (places_are f num den (from + 1) (subst (λ (x : ℕ). 10 ^ 8 * den ≤ num * 10 ^ x) (step from f) h))
  where
    step : (x y : ℕ) → x + suc y ≡ x + 1 + y
    step x y = omega arith

    go : (b : Bool) → (T b → 10 ^ 8 * den ≤ num * 10 ^ from) → (T (not b) → num * 10 ^ from < 10 ^ 8 * den) → Places f num den (from + 1) (places f num den (from + 1))
        → Places (suc f) num den from (cond b from (places f num den (from + 1)))
    go true a b r = here (suc f) num den from (a tt)
    go false a b r = later f num den from (places f num den (from + 1)) (b tt) r

pub few : (num den : ℕ) → 0 < den → num ≤ 1000000 * den → 100000000 * den ≤ num * 1 → ⊥
few num den a b c = omega arith

pub ten_back : (k : ℕ) → 0 < k → 10 ^ k ≡ 10 ^ (k - 1) * 10
ten_back k h = ap (λ (x : ℕ). 10 ^ x) (go k h) ∙ ten_more (k - 1)
  where
    go : (x : ℕ) → 0 < x → x ≡ x - 1 + 1
    go x l = omega arith

pub tenfold : (num den k : ℕ) → 0 < k → num * 10 ^ (k - 1) < 100000000 * den → num * 10 ^ k * 1 ≤ 1000000000 * den
tenfold num den k h l =
    let e : num * 10 ^ k ≡ num * 10 ^ (k - 1) * 10 = ap (λ (x : ℕ). num * x) (ten_back k h) ∙ sym (mul_assoc num (10 ^ (k - 1)) 10) in
    omega arith

pub one_less : (k : ℕ) → 0 < k → 100000000 * 10 ^ k ≡ 1000000000 * 10 ^ (k - 1)
one_less k h = let e = ten_back k h in omega arith
