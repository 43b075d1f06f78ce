-- The points that are kept, and the first refusal among the stops emitted.
use Rattle.std.specs.Prelude.{Bool, true, cond, ◌&&◌, List, [], ◌∷◌, ℕ, zero, suc, ◌+◌, leb, length, drop, Float}
use Rattle.refusals.specs.Refusals.{not_shown}
use Rattle.sampling.specs.Midpoints.{Gradient}
use Rattle.thinning.specs.Kept.{stop_refusal, first_refusal}
use Rattle.weighed.specs.Points.{Site}
use Rattle.within.specs.Shown.{Near, point_after, shown_to, lent_left, to_lent, reach_of}

-- a point that is kept, and whether it and the one kept before it show what they must
pub record Kept : Type 0 where
  pub t : Float
  pub shown : Bool

abbrev pub kept_at : Float → Bool → Kept
kept_at t s = record { t = t; shown = s }

module _ (g : Gradient) (near : Near) (max : Float) where
  abbrev pub shown_from : Float → List Site → ℕ → Bool
  shown_from a rest = shown_to g near max a rest

  -- the questions: whether a and the r-th lent position after it, max last, show what they must; and the same of any point
  unfoldable pub lent_shown : Float → List Site → ℕ → Bool
  lent_shown a rest r = leb r (lent_left rest) && shown_from a rest (to_lent r rest)

  unfoldable pub any_shown : Float → List Site → ℕ → Bool
  any_shown a rest r = leb r (suc (length rest)) && shown_from a rest r

  -- how many points on the next one kept lies: to a lent position, where the next one is shown, else to any point
  unfoldable pub step_from : Float → List Site → ℕ
  step_from a rest = cond (lent_shown a rest 1) (to_lent (reach_of (lent_shown a rest)) rest) (reach_of (any_shown a rest))

  -- the points kept after a, max last: n of them at most
  unfoldable pub kept_from : ℕ → Float → List Site → List Kept
  kept_from zero a rest = []
  kept_from (suc n) a rest =
      let r = step_from a rest in
      let b = point_after max rest r in
      kept_at b (shown_from a rest r) ∷ cond (leb r (length rest)) (kept_from n b (drop r rest)) []

  unfoldable pub kept_all : Float → List Site → List Kept
  kept_all min sites = kept_at min true ∷ kept_from (suc (length sites)) min sites

abbrev pub positions_of : List Kept → List Float
positions_of [] = []
positions_of (k ∷ ks) = k.t ∷ positions_of ks

-- 7, 8, 21 of a stop: with n emitted before it
unfoldable pub kept_refusal : Gradient → ℕ → ℕ → Kept → ℕ
kept_refusal g room n k = first_refusal (stop_refusal room n k.t k.t (g k.t)) (cond k.shown 0 not_shown)

unfoldable pub kept_refusals : Gradient → ℕ → ℕ → List Kept → ℕ
kept_refusals g room n [] = 0
kept_refusals g room n (k ∷ ks) = first_refusal (kept_refusal g room n k) (kept_refusals g room (n + 1) ks)
