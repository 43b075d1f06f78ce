-- What a reach comes to: it is 1, or it was asked and the answer was yes. Assumes nothing.
use mathlib.Core.Path.{◌≡◌, refl}
use mathlib.Core.Bool.{Bool, true, false, cond}
use mathlib.Core.List.{List, [], ◌∷◌}
use mathlib.Core.Logic.{◌⊎◌, inl, inr}
use Prim.Native.Nat.{ℕ, zero, suc, ◌+◌, ◌*◌, ◌≤◌}
use native.Mathlib.Omega.{arith}
use lib.Dec.{leb}
use lib.ListN.{length}
use lib.Ieee.{Float}
use Rattle.float.proofs.Flags.{both_r}
use Rattle.sampling.specs.Midpoints.{Gradient}
use Rattle.weighed.specs.Points.{Site}
use Rattle.within.specs.Shown.{Near, shown_to, lent_left, to_lent, further, reach_from, reach_of}
use Rattle.within.specs.Kept.{lent_shown, any_shown, step_from}

module _ (yes : ℕ → Bool) where
  pub record Reached (r : ℕ) : Type 0 where
    pub least : 1 ≤ r
    pub asked : (r ≡ 1) ⊎ (yes r ≡ true)

  further_is : (s r : ℕ) → Reached r → Reached (further yes s r)
  unfolding further
  further_is s r w = go (yes (r + s)) refl
    where
      go : (b : Bool) → yes (r + s) ≡ b → Reached (cond b (r + s) r)
      go true e = let least = w.least in record { least = omega arith; asked = inr e }
      go false e = w

  from_is : (k r : ℕ) → Reached r → Reached (reach_from yes k r)
  unfolding reach_from
  from_is zero r w = w
  from_is (suc k) r w = go (yes (2 * r)) refl (from_is k (2 * r))
    where
      go : (b : Bool) → yes (2 * r) ≡ b → (Reached (2 * r) → Reached (reach_from yes k (2 * r))) → Reached (cond b (further yes r (reach_from yes k (2 * r))) r)
      go true e f = let least = w.least in further_is r (reach_from yes k (2 * r)) (f (record { least = omega arith; asked = inr e }))
      go false e f = w

  pub reached : Reached (reach_of yes)
  unfolding reach_of
  reached = from_is 14 1 (record { least = omega arith; asked = inl refl })

-- ---- the lent positions
pub lent_on : (r : ℕ) (ss : List Site) → 1 ≤ r → 1 ≤ to_lent r ss
unfolding to_lent
lent_on zero ss h = absurd (omega arith)
lent_on (suc r) [] h = omega arith
lent_on (suc r) (s ∷ ss) h = omega arith

-- ---- a step goes on by one point or more
pub step_on : (g : Gradient) (near : Near) (max a : Float) (rest : List Site) → 1 ≤ step_from g near max a rest
unfolding step_from
step_on g near max a rest = go (lent_shown g near max a rest 1)
  where
    go : (b : Bool) → 1 ≤ cond b (to_lent (reach_of (lent_shown g near max a rest)) rest) (reach_of (any_shown g near max a rest))
    go true = lent_on (reach_of (lent_shown g near max a rest)) rest (reached (lent_shown g near max a rest)).least
    go false = (reached (any_shown g near max a rest)).least

-- ---- it was shown, unless it is one point of any
pub step_shown : (g : Gradient) (near : Near) (max a : Float) (rest : List Site) → (step_from g near max a rest ≡ 1) ⊎ (shown_to g near max a rest (step_from g near max a rest) ≡ true)
unfolding step_from lent_shown any_shown
step_shown g near max a rest = go (lent_shown g near max a rest 1) refl
  where
    go : (b : Bool) → lent_shown g near max a rest 1 ≡ b
        → (cond b (to_lent (reach_of (lent_shown g near max a rest)) rest) (reach_of (any_shown g near max a rest)) ≡ 1)
        ⊎ (shown_to g near max a rest (cond b (to_lent (reach_of (lent_shown g near max a rest)) rest) (reach_of (any_shown g near max a rest))) ≡ true)
    go true e =
        elim (reached (lent_shown g near max a rest)).asked [
          | inl o ↦ inr (rw o (both_r (leb 1 (lent_left rest)) (shown_to g near max a rest (to_lent 1 rest)) e))
          | inr y ↦ inr (both_r (leb (reach_of (lent_shown g near max a rest)) (lent_left rest)) (shown_to g near max a rest (to_lent (reach_of (lent_shown g near max a rest)) rest)) y)
        ]
    go false e =
        elim (reached (any_shown g near max a rest)).asked [
          | inl o ↦ inl o
          | inr y ↦ inr (both_r (leb (reach_of (any_shown g near max a rest)) (suc (length rest))) (shown_to g near max a rest (reach_of (any_shown g near max a rest))) y)
        ]
