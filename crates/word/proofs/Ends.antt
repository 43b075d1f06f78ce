-- The positions kept: they climb, and the last is max. Assumes nothing.
use mathlib.Core.Path.{◌≡◌, refl, ap}
use mathlib.Core.Bool.{Bool, true, false, cond}
use mathlib.Core.List.{List, [], ◌∷◌}
use Prim.Native.Nat.{ℕ, zero, suc, ◌-◌, ◌<◌}
use native.Mathlib.Omega.{arith}
use borrow.Author.Tests.{leb-true, leb-false}
use lib.Dec.{T, leb}
use lib.ListN.{length, drop, length-drop, get_or-eq_default}
use lib.Ieee.{Float, lt}
use Rattle.stops.specs.Stops.{pos_at}
use Rattle.sampling.specs.Midpoints.{Gradient}
use Rattle.weighed.specs.Points.{Site, site, lent_mark}
use Rattle.within.specs.Shown.{Near, point_after}
use Rattle.within.specs.Kept.{step_from, kept_from, positions_of}
use Rattle.weighed.proofs.Merging.{Rises}
use Rattle.within.proofs.Reaching.{step_on}
use Rattle.word.proofs.Weighed.{after, goes_on}

-- each position lies above the one before
abbrev pub Climbs : Float → List Float → Type 0
Climbs a [] = Unit {0}
Climbs a (p ∷ ps) = T (lt a p) × Climbs p ps

abbrev pub last_of : Float → List Float → Float
last_of a [] = a
last_of a (p ∷ ps) = last_of p ps

pub last_at : (a : Float) (ps : List Float) → pos_at (a ∷ ps) (length ps) ≡ last_of a ps
last_at a [] = refl
last_at a (p ∷ ps) = last_at p ps

pub climbs_at : (a : Float) (ps : List Float) (j : ℕ) → Climbs a ps → j < length ps → T (lt (pos_at (a ∷ ps) j) (pos_at ps j))
climbs_at a [] j w l = absurd (omega arith)
climbs_at a (p ∷ ps) zero w l = w.0
climbs_at a (p ∷ ps) (suc j) w l = climbs_at p ps j w.1 (omega arith)

module _ (g : Gradient) (near : Near) (max : Float) where
  abbrev kept : ℕ → Float → List Site → List Float
  kept n a rest = positions_of (kept_from g near max n a rest)

  -- past the points that are left comes max
  end : (rest : List Site) (r : ℕ) → length rest < r → point_after max rest r ≡ max
  end rest r l = ap (λ (s : Site). s.t) (get_or-eq_default rest (site max lent_mark) (omega arith))

  pub kept_last : (n : ℕ) (a : Float) (rest : List Site) → length rest < n → last_of a (kept n a rest) ≡ max
  unfolding kept_from
  kept_last zero a rest few = absurd (omega arith)
  kept_last (suc n) a rest few = go (leb r (length rest)) refl (kept_last n)
    where
      r : ℕ
      r = step_from g near max a rest

      b : Float
      b = point_after max rest r

      go : (more : Bool) → leb r (length rest) ≡ more → ((a : Float) (rest : List Site) → length rest < n → last_of a (kept n a rest) ≡ max)
          → last_of b (positions_of (cond more (kept_from g near max n b (drop r rest)) [])) ≡ max
      go true e f = let one = step_on g near max a rest in f b (drop r rest) (omega (arith, leb-true r (length rest) e, length-drop r rest))
      go false e f = end rest r (leb-false r (length rest) e)

  pub kept_climbs : (n : ℕ) (a : Float) (rest : List Site) → length rest < n → Rises max a rest → Climbs a (kept n a rest)
  unfolding kept_from
  kept_climbs zero a rest few w = absurd (omega arith)
  kept_climbs (suc n) a rest few w = (after max a rest (r - 1) w, go (leb r (length rest)) refl (kept_climbs n))
    where
      r : ℕ
      r = step_from g near max a rest

      b : Float
      b = point_after max rest r

      go : (more : Bool) → leb r (length rest) ≡ more → ((a : Float) (rest : List Site) → length rest < n → Rises max a rest → Climbs a (kept n a rest))
          → Climbs b (positions_of (cond more (kept_from g near max n b (drop r rest)) []))
      go true e f =
          let one = step_on g near max a rest in
          let l = leb-true r (length rest) e in
          f b (drop r rest) (omega (arith, length-drop r rest)) (goes_on g near max n a rest r one few w l)
      go false e f = tt
