-- Catmull-Rom segments in a table: those of a ramp's pairs from one on, as many as there is room for.
use Rattle.std.specs.Prelude.{◌≡◌, Bool, true, false, cond, List, [], ◌∷◌, ℕ, ◌+◌, ◌-◌, ◌≤◌, ◌<◌, min, ltb, length, get_or, take, Float}
use Rattle.std.proofs.lemmas.List.Edits.{sets}
use Rattle.slices.specs.Joined.{joined}
use Rattle.blend.specs.Chords.{chords_of}
use Rattle.blend.specs.declared.Rgba.{Rgba}
use Rattle.stops.specs.Stops.{colour_at}
use Rattle.stops.specs.Pair.{right_of}
use Rattle.stops.specs.Near.{segment_for}
use Rattle.stops.specs.declared.Kind.{Kind}
use Rattle.stops.specs.declared.Window.{Window}
use Rattle.stops.specs.declared.Kind.TheVariants.{Linear, Smoothstep, Sharp, Basis, CatmullRom, Gimp, GimpSaved}

abbrev pub is_catmull_rom : Kind → Bool
is_catmull_rom Linear = false
is_catmull_rom Smoothstep = false
is_catmull_rom Sharp = false
is_catmull_rom Basis = false
is_catmull_rom CatmullRom = true
is_catmull_rom Gimp = false
is_catmull_rom GimpSaved = false

abbrev pub Table : Type 0
Table = List (List (List Float))

-- the segments of k pairs of n stops, from the pair `base` on
abbrev pub segments_from : List Float → ℕ → ℕ → ℕ → Table
segments_from cs n base k = joined (λ i. segment_for cs n (base + i) ∷ []) k

-- the segments of the pairs of n stops from `base` on are written, until the table is full; k is how many there are
pub record FillsTable (cs : List Float) (n base : ℕ) (table table' : Table) (k : ℕ) : Type 0 where
  pub many : k ≡ min (n - base) (length table)
  pub written : table' ≡ sets table 0 (segments_from cs n base (min (n - base) (length table)))

-- ---- what filling a table hands from pair to pair
-- the chords from stop k to the one after it, or to the mirrored one
unfoldable pub chords_after : List Float → ℕ → ℕ → Rgba
chords_after cs n k = chords_of (colour_at cs k) (right_of cs n k (colour_at cs (k - 1)) (colour_at cs k))

-- what the pair k - 1, k is handed: the chords of the pair before it, if there is one, and its own
pub record Chords (cs : List Float) (k : ℕ) (last within : Rgba) : Type 0 where
  pub behind : 1 < k → last ≡ chords_of (colour_at cs (k - 2)) (colour_at cs (k - 1))
  pub own : within ≡ chords_of (colour_at cs (k - 1)) (colour_at cs k)

-- at i stands the segment of the pair `base` + i of n stops
pub record Segments (cs : List Float) (n base : ℕ) (table : Table) : Type 0 where
  pub each : (i : ℕ) → i < length table → get_or table i [] ≡ segment_for cs n (base + i)

-- a window's segments stand first in the table
pub record InHand (cs : List Float) (n : ℕ) (w : Window) (table : Table) : Type 0 where
  pub fits : w.count ≤ length table
  pub segments : Segments cs n w.base (take w.count table)

-- the segment of the pair k - 1, k: out of any table, whose first is that of the pair `base`, or worked out where the table has none
unfoldable pub segment_by : List Float → ℕ → ℕ → Table → ℕ → List (List Float)
segment_by cs n base table k =
    cond (ltb k base)
    (segment_for cs n k)
    (cond (ltb (k - base) (length table)) (get_or table (k - base) []) (segment_for cs n k))
