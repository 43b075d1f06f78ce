-- What the functions within promise each other.
use Rattle.std.specs.Prelude.{◌≡◌, Bool, true, cond, List, ℕ, ◌+◌, ◌*◌, ◌≤◌, length, set, Float}
use Rattle.std.proofs.lemmas.List.Edits.{sets}
use Rattle.stops.specs.Lent.{Ramp, Change}
use Rattle.stops.specs.Segments.{is_catmull_rom}
use Rattle.stops.specs.declared.Checked.TheVariants.{Fine}
use Rattle.gradient.specs.Ramp.{check_of, colour_of}
use Rattle.difference.specs.Difference.{exceeds}
use Rattle.sampling.specs.Constants.{cells, depth, row_length}
use Rattle.sampling.specs.Midpoints.{Gradient, Far, halves, tries}
use Rattle.slices.specs.Joined.{summed}
use Rattle.sampling.specs.Cells.{edge_of, points_of, row_of, cell_row, cell_count, cell_tries}
use Rattle.sampling.specs.Segments.{Drawn, drawn_for}
use Rattle.sampling.specs.Anew.{anew_tries, anew_rows, anew_counts}
use Rattle.sampling.specs.Lent.{Body}
use Rattle.sampling.specs.declared.Point.{Point}
use Rattle.sampling.specs.declared.Halved.{Halved}
use Rattle.sampling.specs.declared.Carried.{Carried}
use Rattle.sampling.specs.declared.Task.{Task}

-- ---- a task: its test; the left end of its cell i
abbrev pub task_far : Task → Far
task_far task = exceeds task.cutoff

abbrev pub task_end : Task → ℕ → Float
task_end task = edge_of task.min task.max

-- ---- points
-- a point carries its own colour
abbrev pub Coloured : Gradient → Point → Type 0
Coloured g p = p.colour ≡ g p.t

-- a point at t
abbrev pub PointAt : Gradient → Float → Point → Type 0
PointAt g t p = (p.t ≡ t) × Coloured g p

-- of a ramp, s is pair k, drawn, where there is such a pair
abbrev pub DrawnAt : Ramp → ℕ → Drawn → Type 0
DrawnAt ramp k s = 1 ≤ k → s ≡ drawn_for ramp.channels (length ramp.positions) k

-- the same where the ramp is Catmull-Rom
abbrev pub Carrying : Ramp → ℕ → Drawn → Type 0
Carrying ramp k s = is_catmull_rom ramp.kind ≡ true → DrawnAt ramp k s

-- a point at t, whose pair is in hand, drawn
abbrev pub PointDrawn : Ramp → Gradient → Float → Drawn → Point → Type 0
PointDrawn ramp g t s p = PointAt g t p × Carrying ramp p.pair s

-- the ends of a stretch of a checked ramp carry their colours
pub record Between (ramp : Ramp) (p q : Point) : Type 0 where
  pub fine : check_of ramp ≡ Fine
  pub left : Coloured (colour_of ramp) p
  pub right : Coloured (colour_of ramp) q

-- beside them their pairs are drawn
pub record DrawnBetween (ramp : Ramp) (p q : Point) (s u : Drawn) : Type 0 where
  pub between : Between ramp p q
  pub left_drawn : Carrying ramp p.pair s
  pub right_drawn : Carrying ramp q.pair u

-- the midpoints kept are stored from `at` on
pub record HalvesTo (g : Gradient) (far : Far) (left : ℕ) (t0 t1 : Float) (at : ℕ) (row row' : List Float) (r : Halved) : Type 0 where
  pub next : r.at ≡ at + length (halves g far left t0 t1)
  pub tried : r.tries ≡ tries g far left t0 t1
  pub written : row' ≡ sets row at (halves g far left t0 t1)

pub record RowIs (g : Gradient) (far : Far) (t0 t1 : Float) (row' : List Float) (r : Halved) : Type 0 where
  pub count : r.at ≡ length (points_of g far t0 t1)
  pub tried : r.tries ≡ tries g far depth t0 t1
  pub written : row' ≡ row_of g far t0 t1

-- what is carried to cell i: the point where it starts, if that is known, and few tries
pub record Carries (g : Gradient) (lo hi : Float) (i : ℕ) (c : Carried) : Type 0 where
  pub start : c.known ≡ true → PointAt g (edge_of lo hi i) c.point
  pub few : c.tries ≤ 127 * i

-- a checked ramp, and what is carried to its cell i
pub record Reaches (ramp : Ramp) (s : Drawn) (lo hi : Float) (i : ℕ) (c : Carried) : Type 0 where
  pub fine : check_of ramp ≡ Fine
  pub drawn : Carrying ramp c.point.pair s
  pub carries : Carries (colour_of ramp) lo hi i c

-- cell i keeps what it holds, or is sampled anew; r is carried on
pub record CellCarried (g : Gradient) (far : Far) (kept : Bool) (lo hi : Float) (i : ℕ) (held : Change Body) (c r : Carried) : Type 0 where
  pub tried : r.tries ≡ c.tries + cond kept 0 (cell_tries g far lo hi i)
  pub written : held.exit.rows ≡ cond kept held.entry.rows (sets held.entry.rows (i * row_length) (cell_row g far lo hi i))
  pub counted : held.exit.counts ≡ cond kept held.entry.counts (set held.entry.counts i (cell_count g far lo hi i))
  pub carries : Carries g lo hi (i + 1) r

-- the record is sampled anew but for the cells kept
pub record RecordAnew (g : Gradient) (far : Far) (keep : ℕ → Bool) (lo hi : Float) (held : Change Body) (n : ℕ) : Type 0 where
  pub tried : n ≡ summed (anew_tries g far keep lo hi) cells
  pub written : held.exit.rows ≡ anew_rows g far keep lo hi held.entry.rows
  pub counted : held.exit.counts ≡ anew_counts g far keep lo hi held.entry.counts
