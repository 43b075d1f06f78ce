-- The first point kept after the one kept last, by the step of thinning; and its place.
use Rattle.std.specs.Prelude.{cond, List, [], ◌∷◌, ℕ, zero, suc, ◌+◌, drop, Float}
use Rattle.sampling.specs.Midpoints.{Gradient, Far}
use Rattle.thinning.specs.Kept.{stays, weighs}
use Rattle.places.specs.Places.{list_of, next_place, points_before}
use Rattle.places.specs.declared.RowPlace.{RowPlace}

-- how many points are passed before it, and how many weighed, itself included
pub record First : Type 0 where
  pub passed : ℕ
  pub tried : ℕ

-- one point more passed, and n more weighed
abbrev pub later : ℕ → First → First
later n f = record { passed = suc f.passed; tried = n + f.tried }

-- the very last point is kept, and not weighed
unfoldable pub first_kept : Gradient → Far → Float → List Float → First
first_kept g far last [] = record { passed = 0; tried = 0 }
first_kept g far last (x ∷ []) = record { passed = 0; tried = 0 }
first_kept g far last (x ∷ y ∷ rest) =
    cond (stays g far last x y) (record { passed = 0; tried = weighs last x })
    (later (weighs last x) (first_kept g far last (y ∷ rest)))

-- the place n places on
unfoldable pub places_on : List ℕ → ℕ → RowPlace → RowPlace
places_on counts zero p = p
places_on counts (suc n) p = places_on counts n (next_place counts p)

-- a list's points after the one at a place
abbrev pub points_after : List Float → List ℕ → Float → RowPlace → List Float
points_after rows counts max p = drop (points_before counts p + 1) (list_of rows counts max)
