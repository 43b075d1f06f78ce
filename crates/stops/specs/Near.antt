-- Points taken one after the other: the pair of the last point is tried first, and a Catmull-Rom segment is kept while the pair stays.
use Rattle.std.specs.Prelude.{ℕ, ◌-◌, Bool, cond, ◌&&◌, List, ltb, length, Float}
use Rattle.std.specs.Float.Ieee.{lt}
use Rattle.blend.specs.Blend.{black}
use Rattle.blend.specs.CatmullRom.{segment_of, segment_at}
use Rattle.blend.specs.Pair.{share_of}
use Rattle.blend.specs.declared.Rgba.{Rgba}
use Rattle.stops.specs.Stops.{pos_at, colour_at, stop_at}
use Rattle.stops.specs.Place.{place_in}
use Rattle.stops.specs.Pair.{left_of, right_of}
use Rattle.stops.specs.declared.Place.{Place}
use Rattle.stops.specs.declared.Place.TheVariants.{End, Nowhere, Between}

-- t lies past stop k - 1 and before stop k. At stop k itself it may be the last one's
unfoldable pub is_between : List Float → Float → ℕ → Bool
is_between ps t k = ltb 0 k && ltb k (length ps) && lt (pos_at ps (k - 1)) t && lt t (pos_at ps k)

unfoldable pub place_near : List Float → Float → ℕ → Place
place_near ps t k = cond (is_between ps t k) (Between k) (place_in ps t)

-- the pair of a place, and k where it has none
abbrev pub pair_or : Place → ℕ → ℕ
pair_or (End i) k = k
pair_or Nowhere k = k
pair_or (Between j) k = j

-- the segment of the pair k - 1, k of n stops
unfoldable pub segment_for : List Float → ℕ → ℕ → List (List Float)
segment_for cs n k =
    let p = colour_at cs (k - 1) in
    let q = colour_at cs k in
    segment_of (left_of cs k p q) p q (right_of cs n k p q)

-- the colour at a place, by the segment of its pair
unfoldable pub segment_in : List Float → List Float → List (List Float) → Float → Place → Rgba
segment_in ps cs s t (End i) = colour_at cs i
segment_in ps cs s t Nowhere = black
segment_in ps cs s t (Between k) = segment_at s (share_of (stop_at ps cs (k - 1)) (stop_at ps cs k) t)
