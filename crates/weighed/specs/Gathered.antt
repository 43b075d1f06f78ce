-- The points of a record and of lent positions, as `gather` leaves them in two arrays.
use Rattle.std.specs.Prelude.{◌≡◌, Bool, cond, ◌&&◌, List, [], ◌∷◌, ℕ, ◌+◌, leb, eqb, length, Float}
use Rattle.std.proofs.lemmas.List.Edits.{sets}
use Rattle.refusals.specs.Limits.{most_stops}
use Rattle.slices.specs.Joined.{joined}
use Rattle.sampling.specs.Constants.{cells, record_length}
use Rattle.records.specs.Fitness.{counts_good}
use Rattle.places.specs.Places.{row_points}
use Rattle.weighed.specs.Points.{Site, own_of, merged}

-- a record's points, without max
abbrev pub points_of : List Float → List ℕ → List Float
points_of rows counts = joined (row_points rows counts) cells

-- no more positions than a ramp has, and a record of the right lengths and counts
unfoldable pub weighable : ℕ → ℕ → List ℕ → Bool
weighable n long counts = leb n most_stops && (eqb long record_length && (eqb (length counts) cells && counts_good counts))

-- the points strictly between lo and hi, of a record and of lent positions; of another record, or of more positions, there are none
unfoldable pub merged_of : List Float → List Float → List ℕ → Float → Float → List Site
merged_of ps rows counts lo hi = merged hi (length (points_of rows counts) + length (own_of ps)) lo (points_of rows counts) (own_of ps)

unfoldable pub gathered : List Float → List Float → List ℕ → Float → Float → List Site
gathered ps rows counts lo hi = cond (weighable (length ps) (length rows) counts) (merged_of ps rows counts lo hi) []

-- where they lie, and what they are
unfoldable pub times_of : List Site → List Float
times_of [] = []
times_of (s ∷ ss) = s.t ∷ times_of ss

unfoldable pub marks_of : List Site → List ℕ
marks_of [] = []
marks_of (s ∷ ss) = s.mark ∷ marks_of ss

-- n of them stand in two arrays, from the start on
pub record Gathers (ss : List Site) (ts : List Float) (ms : List ℕ) (ts' : List Float) (ms' : List ℕ) (n : ℕ) : Type 0 where
  pub many : n ≡ length ss
  pub times : ts' ≡ sets ts 0 (times_of ss)
  pub marks : ms' ≡ sets ms 0 (marks_of ss)
