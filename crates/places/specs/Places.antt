-- The points of a record: by row, and one after the other from a place to the next.
use Rattle.std.specs.Prelude.{◌≡◌, cond, List, [], ◌∷◌, ◌++◌, ℕ, zero, suc, ◌+◌, ◌*◌, ◌≤◌, ◌<◌, min, ltb, length, take, drop, get_or, Float}
use Rattle.std.specs.Float.{nan}
use Rattle.sampling.specs.Constants.{cells, row_length, record_length}
use Rattle.slices.specs.Joined.{joined, summed}
use Rattle.places.specs.declared.RowPlace.{RowPlace}

-- row i's points
abbrev pub row_points : List Float → List ℕ → ℕ → List Float
row_points rows counts i = take (get_or counts i 0) (drop (i * row_length) rows)

-- the list thinned: all rows, then max
unfoldable pub list_of : List Float → List ℕ → Float → List Float
list_of rows counts max = joined (row_points rows counts) cells ++ max ∷ []

-- the first place, and the next: in the same row, or at the start of the row after it; max stands at the start of row 36, and after max comes max
abbrev pub first_place : RowPlace
first_place = record { row = 0; index = 0 }

unfoldable pub next_place : List ℕ → RowPlace → RowPlace
next_place counts p =
    cond (ltb (p.index + 1) (get_or counts p.row 0))
    (record { row = p.row; index = p.index + 1 })
    (record { row = min (p.row + 1) cells; index = 0 })

-- the point at a place
unfoldable pub point_at : List Float → Float → RowPlace → Float
point_at rows max p = cond (ltb p.row cells) (get_or rows (p.row * row_length + p.index) nan) max

-- n points from a place on
unfoldable pub follow : List Float → List ℕ → Float → ℕ → RowPlace → List Float
follow rows counts max zero p = []
follow rows counts max (suc n) p = point_at rows max p ∷ follow rows counts max n (next_place counts p)

-- how many points stand before a place
unfoldable pub points_before : List ℕ → RowPlace → ℕ
points_before counts p = summed (λ i. get_or counts i 0) p.row + p.index

-- a place of the record: of a row's points, or max
pub record InRecord (counts : List ℕ) (p : RowPlace) : Type 0 where
  pub in_row : p.row < cells → p.index < get_or counts p.row 0
  pub in_end : (p.row < cells → ⊥) → (p.row ≡ cells) × (p.index ≡ 0)

-- a record that may be thinned
pub record Ready (rows : List Float) (counts : List ℕ) : Type 0 where
  pub long : length rows ≡ record_length
  pub many : length counts ≡ cells
  pub some : (i : ℕ) → i < cells → 1 ≤ get_or counts i 0
  pub most : (i : ℕ) → i < cells → get_or counts i 0 ≤ row_length
