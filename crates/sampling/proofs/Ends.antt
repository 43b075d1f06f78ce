-- The ends of the cells, as those of the definition. Assumes nothing.
use mathlib.Core.Path.{◌≡◌}
use Prim.Native.Nat.{ℕ, ◌≤◌}
use borrow.Author.Tests.{le-leb}
use lib.Ieee.{Float}
use Rattle.sampling.specs.Constants.{cells}
use Rattle.sampling.specs.Cells.{edge_of, end_of}

module _ (lo hi : Float) (i : ℕ) where
  pub end_is : i ≤ cells → end_of lo hi i ≡ edge_of lo hi i
  unfolding end_of
  end_is h = rw (le-leb i cells h)
