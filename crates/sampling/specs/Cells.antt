-- A cell's row, count and tries, and the record of all cells, over any gradient.
use Rattle.std.specs.Prelude.{cond, List, [], ◌∷◌, ◌++◌, ℕ, ◌+◌, ◌-◌, ◌*◌, leb, length, replicate, Float}
use Rattle.float.specs.F32.{◌⊕◌, ◌⊖◌, ◌⊗◌, ◌⊘◌, f0}
use Rattle.float.specs.Number.{count_of}
use Rattle.slices.specs.Joined.{joined, summed}
use Rattle.sampling.specs.Constants.{cells, depth, row_length}
use Rattle.sampling.specs.Midpoints.{Gradient, Far, halves, tries}

-- the left end of cell i, and the right end of cell i - 1: min + (max - min)·(i/36)
unfoldable pub edge_of : Float → Float → ℕ → Float
edge_of lo hi i = lo ⊕ (hi ⊖ lo) ⊗ (count_of i ⊘ count_of cells)

-- the same of any number: past the last cell it is max
unfoldable pub end_of : Float → Float → ℕ → Float
end_of lo hi i = cond (leb i cells) (edge_of lo hi i) hi

-- the points between t0 and t1: the left end, then every midpoint kept
unfoldable pub points_of : Gradient → Far → Float → Float → List Float
points_of g far t0 t1 = t0 ∷ halves g far depth t0 t1

-- xs, then +0 up to n places
abbrev pub padded : ℕ → List Float → List Float
padded n xs = xs ++ replicate (n - length xs) f0

unfoldable pub row_of : Gradient → Far → Float → Float → List Float
row_of g far t0 t1 = padded row_length (points_of g far t0 t1)

module _ (g : Gradient) (far : Far) (lo hi : Float) where
  -- cell i's row, count and tries
  unfoldable pub cell_row : ℕ → List Float
  cell_row i = row_of g far (edge_of lo hi i) (edge_of lo hi (i + 1))

  unfoldable pub cell_count : ℕ → ℕ
  cell_count i = length (points_of g far (edge_of lo hi i) (edge_of lo hi (i + 1)))

  unfoldable pub cell_tries : ℕ → ℕ
  cell_tries i = tries g far depth (edge_of lo hi i) (edge_of lo hi (i + 1))

  -- the record's rows and counts, and the evaluations: 3 for each try
  unfoldable pub rows_of : List Float
  rows_of = joined cell_row cells

  unfoldable pub counts_of : List ℕ
  counts_of = joined (λ i. cell_count i ∷ []) cells

  unfoldable pub tries_of : ℕ
  tries_of = summed cell_tries cells

  unfoldable pub sampling_evaluations : ℕ
  sampling_evaluations = 3 * tries_of
