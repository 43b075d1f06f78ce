-- What the functions within promise each other; no public promise is stated with it.
use Rattle.std.specs.Prelude.{◌≡◌, Bool, true, false, not, ◌&&◌, List, ◌++◌, ℕ, ◌+◌, ◌-◌, ◌*◌, ◌≤◌, ◌<◌, T, leb, length, take, drop, get_or, Float}
use Rattle.std.specs.Float.{nan, inf}
use Rattle.std.specs.Float.Ieee.{le, lt}
use Rattle.float.specs.F32.{f0, f1}
use Rattle.blend.specs.Channels.{colours_of}
use Rattle.blend.specs.declared.Rgba.{Rgba}
use Rattle.stops.specs.Stops.{pos_at, steady}
use Rattle.stops.specs.Place.{Rising}
use Rattle.gradient.specs.Gimp.{segments, segment_found, off_domain}

-- segments: one or more, and lengths that agree
pub record Cut (ps cs : List Float) (ks : List ℕ) : Type 0 where
  pub least : 1 ≤ segments ps
  pub channels : length cs ≡ 8 * segments ps
  pub codes : length ks ≡ 2 * segments ps

-- such segments, and room for the colours at ts
pub record Fits (ps cs : List Float) (ks : List ℕ) (ts out : List Float) : Type 0 where
  pub cut : Cut ps cs ks
  pub room : 4 * length ts ≤ length out

-- the positions of segments in order, by the test that painting makes: three positions or more, the first not below 0, the last not above 1, and none below the one before it
unfoldable pub segments_in_order : List Float → Bool
segments_in_order ps =
    let last = pos_at ps (length ps - 1) in
    leb 3 (length ps) && (not (lt (pos_at ps 0) f0) && (not (lt f1 last) && steady last (inf true) ps))

-- what it makes sure of: positions that rise, and lie in the domain
pub record Orderly (ps : List Float) : Type 0 where
  pub rising : Rising ps
  pub low : T (le f0 (pos_at ps 0))
  pub high : T (le (pos_at ps (length ps - 1)) f1)

-- past the left end and before the right one
abbrev pub strictly_inside : Float → Float → Float → Bool
strictly_inside left right t = lt left t && lt t right

-- point j where it comes before the end, and else another number
pub record Peeked (ts : List Float) (j end : ℕ) (other t : Float) : Type 0 where
  pub here : j < end → t ≡ get_or ts j nan
  pub past : end ≤ j → t ≡ other

-- from point i up to j the colours are written: an output that had the first i of them now has the first j
pub record Written (g : Float → Rgba) (ts : List Float) (i j : ℕ) (out out' : List Float) : Type 0 where
  pub on : i < j
  pub within : j ≤ length ts
  pub sized : length out' ≡ length out
  pub is : (o : List Float) → 4 * length ts ≤ length o → out ≡ colours_of g (take i ts) ++ drop (4 * i) o → out' ≡ colours_of g (take j ts) ++ drop (4 * j) o

-- point `start`, in the domain, whose segment is s; points past the next may be painted too only where the positions are orderly
pub record Starts (ps ts : List Float) (s start end : ℕ) : Type 0 where
  pub some : start < end
  pub inside : end ≤ length ts
  pub ordered : start + 1 < end → Orderly ps
  pub found : s ≡ segment_found ps (get_or ts start nan)
  pub on : off_domain (get_or ts start nan) ≡ false
