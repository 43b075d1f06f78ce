-- What two stops that follow each other show, and how far a question is answered yes.
use Rattle.std.specs.Prelude.{Bool, true, cond, ◌&&◌, List, [], ◌∷◌, ℕ, zero, suc, ◌+◌, ◌-◌, ◌*◌, eqb, take, get_or, Float}
use Rattle.std.specs.Float.Ieee.{le}
use Rattle.float.specs.F32.{◌⊖◌, ◌⊘◌}
use Rattle.blend.specs.Blend.{linear}
use Rattle.blend.specs.declared.Rgba.{Rgba}
use Rattle.difference.specs.Difference.{distance_of, clamped_of, squares_of}
use Rattle.sampling.specs.Midpoints.{Gradient}
use Rattle.weighed.specs.Points.{Site, site, sampled_mark, lent_mark}

-- whether a list's colour is near enough to the ramp's, at a point of a mark
abbrev pub Near : Type 0
Near = ℕ → Rgba → Rgba → Bool

-- how far off it may be: by the threshold in force at the record's points, by the hold at the others
abbrev pub off_at : Float → Float → ℕ → Float
off_at threshold hold m = cond (eqb m sampled_mark) threshold hold

-- the ramp's colour first; a difference that is not a number is more
unfoldable pub near_within : Float → Float → Near
near_within threshold hold m x y = le (distance_of x y) (off_at threshold hold m)

-- the same by one comparison, with the cutoffs of both
unfoldable pub near_below : Float → Float → Near
near_below threshold hold m x y = le (squares_of (clamped_of x) (clamped_of y)) (off_at threshold hold m)

-- whether the mix of the ramp's colours at a and b is near enough to the ramp's at a point
unfoldable pub fairly : Gradient → Near → Float → Float → Site → Bool
fairly g near a b s = near s.mark (g s.t) (linear (g a) (g b) ((s.t ⊖ a) ⊘ (b ⊖ a)))

-- the r-th point of those that are left; past them it is max
abbrev pub point_after : Float → List Site → ℕ → Float
point_after max rest r = (get_or rest (r - 1) (site max lent_mark)).t

-- ---- of any colours and any test
module _ (g : Gradient) (near : Near) where
  unfoldable pub shows : Float → Float → List Site → Bool
  shows a b [] = true
  shows a b (s ∷ ss) = fairly g near a b s && shows a b ss

  -- whether a and the r-th point after it show what they must: what lies after a up to and with it, but never max
  unfoldable pub shown_to : Float → Float → List Site → ℕ → Bool
  shown_to max a rest r = shows a (point_after max rest r) (take r rest)

-- ---- the lent positions among the points that are left, max last: how many, and how many points there are up to the r-th
unfoldable pub lent_left : List Site → ℕ
lent_left [] = 1
lent_left (s ∷ ss) = cond (eqb s.mark lent_mark) (suc (lent_left ss)) (lent_left ss)

unfoldable pub to_lent : ℕ → List Site → ℕ
to_lent zero ss = 0
to_lent (suc r) [] = 1
to_lent (suc r) (s ∷ ss) = suc (cond (eqb s.mark lent_mark) (to_lent r ss) (to_lent (suc r) ss))

-- ---- the reach of a question: r is doubled while the answer is yes, k times at most; then a half of it, a quarter, .. are added, each where the answer is yes
module _ (yes : ℕ → Bool) where
  unfoldable pub further : ℕ → ℕ → ℕ
  further s r = cond (yes (r + s)) (r + s) r

  unfoldable pub reach_from : ℕ → ℕ → ℕ
  reach_from zero r = r
  reach_from (suc k) r = cond (yes (2 * r)) (further r (reach_from k (2 * r))) r

  -- there are fewer than 2 ^ 14 points
  unfoldable pub reach_of : ℕ
  reach_of = reach_from 14 1
