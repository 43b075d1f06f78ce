-- Which cells of a record an edit leaves as they are.
use Rattle.std.specs.Prelude.{Bool, ◌&&◌, List, [], ◌∷◌, ℕ, Float}
use Rattle.std.specs.Float.Ieee.{neg, le}
use Rattle.sampling.specs.Constants.{cells, farthest}
use Rattle.slices.specs.Joined.{joined}
use Rattle.refresh.specs.reach.Stretch.{outside_of, cell_clear}
use Rattle.refresh.specs.declared.reach.stretch.Stretch.{Stretch}

-- the ends of a domain: in order, and neither beyond plus or minus 1e38
unfoldable pub is_domain : Float → Float → Bool
is_domain lo hi = le (neg farthest) lo && (le lo hi && le hi farthest)

module _ (lo hi : Float) (s : Stretch) where
  -- the ends are a domain's, and cell i is clear of the stretch
  unfoldable pub cell_kept : ℕ → Bool
  cell_kept i = is_domain lo hi && cell_clear (outside_of s) lo hi i

  -- so for each of the 36 cells
  unfoldable pub kept_cells : List Bool
  kept_cells = joined (λ i. cell_kept i ∷ []) cells
