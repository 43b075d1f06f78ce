-- What the functions within promise each other; no public promise is stated with it. Stops are read here without a test: what the check of the ramp has made
-- sure of is asked for instead.
use Rattle.std.specs.Prelude.{◌≡◌, false, List, ℕ, ◌-◌, ◌*◌, ◌≤◌, ◌<◌, ◌^◌, length, Float}
use Rattle.std.specs.Float.Ieee.{le, is_nan}
use Rattle.blend.specs.declared.Rgba.{Rgba}
use Rattle.stops.specs.Stops.{pos_at}
use Rattle.stops.specs.Place.{Rising, place_of}
use Rattle.stops.specs.Pair.{colour_in}
use Rattle.stops.specs.declared.Kind.{Kind}
use Rattle.stops.specs.declared.Place.{Place}

-- the largest power of two below n
pub record Span (n size : ℕ) : Type 0 where
  pub width : ℕ
  pub power : size ≡ 2 ^ width
  pub inside : size < n
  pub half : n ≤ 2 * size

-- positions that rise, and t past the first and before the last
pub record Sought (ps : List Float) (t : Float) (span : ℕ) : Type 0 where
  pub rising : Rising ps
  pub spans : Span (length ps) span
  pub past : le t (pos_at ps 0) ≡ false
  pub before : le (pos_at ps (length ps - 1)) t ≡ false
  pub number : is_nan t ≡ false

-- the colour of stops at t
abbrev pub stop_colour : Kind → List Float → List Float → Float → Rgba
stop_colour kind ps cs t = colour_in kind ps cs t (place_of ps t)

-- stops that passed the check, and room for the colours at ts
pub record Paintable (ps cs ts out : List Float) : Type 0 where
  pub two : 2 ≤ length ps
  pub rising : Rising ps
  pub four : length cs ≡ 4 * length ps
  pub room : 4 * length ts ≤ length out

-- stops, and the place of t
pub record Placed (ps cs : List Float) (t : Float) (place : Place) : Type 0 where
  pub two : 2 ≤ length ps
  pub rising : Rising ps
  pub four : length cs ≡ 4 * length ps
  pub found : place ≡ place_of ps t
