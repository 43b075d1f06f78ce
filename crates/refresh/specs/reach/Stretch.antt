-- The stretch of an edit: which points are outside it, and which cells are clear of it. One rule for every edit.
use Rattle.std.specs.Prelude.{Bool, true, false, cond, ◌&&◌, ◌||◌, List, ℕ, zero, suc, ◌+◌, ◌-◌, leb, ltb, length, Float}
use Rattle.std.specs.Float.{nan, inf}
use Rattle.std.specs.Float.Ieee.{lt, le}
use Rattle.stops.specs.Stops.{pos_at}
use Rattle.stops.specs.declared.Kind.{Kind}
use Rattle.stops.specs.declared.Kind.TheVariants.{Linear, Smoothstep, Sharp, Basis, CatmullRom, Gimp, GimpSaved}
use Rattle.sampling.specs.Constants.{depth}
use Rattle.sampling.specs.Midpoints.{mid_of}
use Rattle.sampling.specs.Cells.{edge_of}
use Rattle.refresh.specs.declared.reach.stretch.Stretch.{Stretch}

-- ---- which points are outside. What is compared with not-a-number is neither at most nor above
module _ (s : Stretch) (t : Float) where
  unfoldable pub before_of : Bool
  before_of = le t s.low && lt t s.below

  unfoldable pub after_of : Bool
  after_of = lt s.high t

  unfoldable pub outside_of : Bool
  outside_of = before_of || after_of

-- ---- of a stop moved, added or removed: from the neighbour before to the neighbour after, and t = the one after is inside
unfoldable pub stretch_between : List Float → ℕ → ℕ → Stretch
stretch_between ps i j = record { low = pos_at ps i; below = inf false; high = pos_at ps j }

-- ---- of a change of the colour of stop k
-- how many pairs a stop's colour reaches on each side: one, and two where a pair reads the stops beside it as well. GIMP segments have no stops
abbrev pub reach_of : Kind → ℕ
reach_of Linear = 1
reach_of Smoothstep = 1
reach_of Sharp = 1
reach_of Basis = 2
reach_of CatmullRom = 2
reach_of Gimp = 1
reach_of GimpSaved = 1

-- for the last stop an outside point must also lie below its position; ∞ says nothing
unfoldable pub own_end : List Float → ℕ → Float
own_end ps k = cond (ltb (k + 1) (length ps)) (inf false) (pos_at ps k)

module _ (reach : ℕ) (ps : List Float) (k : ℕ) where
  -- the position `reach` places to the left, and none where no stop stands there
  unfoldable pub left_end : Float
  left_end = cond (leb reach k) (pos_at ps (k - reach)) nan

  -- the position `reach` places to the right, and none where no stop stands there
  abbrev pub right_end : Float
  right_end = pos_at ps (k + reach)

  unfoldable pub colour_stretch : Stretch
  colour_stretch = record { low = left_end; below = own_end ps k; high = right_end }

-- ---- of any rule that says which points are outside
module _ (out : Float → Bool) where
  -- the midpoints of n full halvings are all outside
  unfoldable pub mids_outside : ℕ → Float → Float → Bool
  mids_outside zero t0 t1 = true
  mids_outside (suc n) t0 t1 =
      out (mid_of t0 t1) && (mids_outside n t0 (mid_of t0 t1) && mids_outside n (mid_of t0 t1) t1)

  -- the two ends and all midpoints are outside
  unfoldable pub clear_of : Float → Float → Bool
  clear_of t0 t1 = out t0 && (out t1 && mids_outside depth t0 t1)

  unfoldable pub cell_clear : Float → Float → ℕ → Bool
  cell_clear lo hi i = clear_of (edge_of lo hi i) (edge_of lo hi (i + 1))
