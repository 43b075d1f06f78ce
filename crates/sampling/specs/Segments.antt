-- The colour of a ramp at a point, tried in a pair first; and along a Catmull-Rom ramp with pairs in hand that are drawn.
use Rattle.std.specs.Prelude.{◌≡◌, Bool, false, cond, List, [], ◌∷◌, ℕ, ◌-◌, ltb, eqb, length, get_or, Float}
use Rattle.std.specs.Float.{nan}
use Rattle.blend.specs.declared.Rgba.{Rgba}
use Rattle.blend.specs.Blend.{black}
use Rattle.blend.specs.Channels.{channels_of}
use Rattle.blend.specs.Chords.{chords_of, segment_drawn}
use Rattle.stops.specs.Lent.{Ramp}
use Rattle.stops.specs.Near.{place_near, pair_or, segment_in}
use Rattle.stops.specs.Pair.{left_of, right_of, between}
use Rattle.stops.specs.Segments.{is_catmull_rom}
use Rattle.stops.specs.Stops.{colour_at}
use Rattle.stops.specs.declared.Kind.{Kind}
use Rattle.stops.specs.declared.Place.{Place}
use Rattle.stops.specs.declared.Place.TheVariants.{End, Nowhere, Between}
use Rattle.gradient.specs.Gimp.{gimp_colour}
use Rattle.gradient.specs.Ramp.{is_gimp}
use Rattle.sampling.specs.declared.Point.{Point}

-- a point with its colour and its pair, 0 for none
abbrev pub point_of : Rgba → Float → ℕ → Point
point_of c t k = record { colour = c; t = t; pair = k }

-- the point at t, whose place is known
abbrev pub placed_point : Kind → List Float → List Float → Float → Place → Point
placed_point kind ps cs t (End i) = point_of (colour_at cs i) t 0
placed_point kind ps cs t Nowhere = point_of black t 0
placed_point kind ps cs t (Between k) = point_of (between kind ps cs k t) t k

-- the point at t of any ramp, tried in a pair first; of a checked ramp its colour is the ramp's, whichever pair is tried (proofs/Nearness)
unfoldable pub point_near : Ramp → Float → ℕ → Point
point_near ramp t guess =
    cond (is_gimp ramp.kind)
    (point_of (gimp_colour ramp.positions ramp.channels ramp.codes t) t 0)
    (placed_point ramp.kind ramp.positions ramp.channels t (place_near ramp.positions t guess))

-- ---- a Catmull-Rom pair that is drawn: the four channels of its segment, and the chords before, within and after it
abbrev pub Drawn : Type 0
Drawn = List (List Float)

abbrev pub drawn_of : List (List Float) → Rgba → Rgba → Rgba → Drawn
drawn_of s before within after =
    get_or s 0 [] ∷ get_or s 1 [] ∷ get_or s 2 [] ∷ get_or s 3 [] ∷ channels_of before ∷ channels_of within ∷ channels_of after ∷ []

abbrev pub curve_of : Drawn → List (List Float)
curve_of s = get_or s 0 [] ∷ get_or s 1 [] ∷ get_or s 2 [] ∷ get_or s 3 [] ∷ []

abbrev pub chords_at : Drawn → ℕ → Rgba
chords_at s i = record { r = get_or (get_or s i []) 0 nan; g = get_or (get_or s i []) 1 nan; b = get_or (get_or s i []) 2 nan; a = get_or (get_or s i []) 3 nan }

-- the pair k of n stops, drawn
unfoldable pub drawn_for : List Float → ℕ → ℕ → Drawn
drawn_for cs n k =
    let p = colour_at cs (k - 1) in
    let q = colour_at cs k in
    let left = left_of cs k p q in
    let right = right_of cs n k p q in
    drawn_of (segment_drawn left p q right (chords_of left p) (chords_of p q) (chords_of q right)) (chords_of left p) (chords_of p q) (chords_of q right)

-- of n stops, pair k comes after pair i
unfoldable pub follows : ℕ → ℕ → ℕ → Bool
follows n i k = cond (ltb 0 i) (cond (ltb k n) (eqb (k - i) 1) false) false

-- pair k, drawn with what s has of pair i and u of pair j: neighbours share two of their three chords
unfoldable pub drawn_between : List Float → ℕ → ℕ → Drawn → ℕ → Drawn → ℕ → Drawn
drawn_between cs n i s j u k =
    let p = colour_at cs (k - 1) in
    let q = colour_at cs k in
    let left = left_of cs k p q in
    let right = right_of cs n k p q in
    let before = cond (follows n i k) (chords_at s 5) (chords_of left p) in
    let within = cond (follows n i k) (chords_at s 6) (cond (follows n k j) (chords_at u 4) (chords_of p q)) in
    let after = cond (follows n k j) (chords_at u 5) (chords_of q right) in
    drawn_of (segment_drawn left p q right before within after) before within after

-- the same, and s or u itself where k is i or j; for no pair s stays
unfoldable pub redrawn : List Float → ℕ → ℕ → Drawn → ℕ → Drawn → ℕ → Drawn
redrawn cs n i s j u k = cond (eqb k 0) s (cond (eqb k i) s (cond (eqb k j) u (drawn_between cs n i s j u k)))

-- ---- along a ramp, with one pair in hand
-- the point at a place by a drawn pair
abbrev pub curve_point : List Float → List Float → Float → Place → Drawn → Point
curve_point ps cs t place s = point_of (segment_in ps cs (curve_of s) t place) t (pair_or place 0)

-- s, which has pair i, becomes the place's pair, drawn; the point is by it
pub record Draws (ps cs : List Float) (t : Float) (place : Place) (i : ℕ) (s s' : Drawn) (r : Point) : Type 0 where
  pub drawn : s' ≡ redrawn cs (length ps) i s 0 s (pair_or place 0)
  pub point : r ≡ curve_point ps cs t place (redrawn cs (length ps) i s 0 s (pair_or place 0))

-- the point at t of any ramp, tried in the pair i first; where the ramp is Catmull-Rom, s goes along
unfoldable pub drawn_along : Ramp → Float → ℕ → Drawn → Drawn
drawn_along ramp t i s =
    cond (is_catmull_rom ramp.kind) (redrawn ramp.channels (length ramp.positions) i s 0 s (pair_or (place_near ramp.positions t i) 0)) s

unfoldable pub point_along : Ramp → Float → ℕ → Drawn → Point
point_along ramp t i s =
    cond (is_catmull_rom ramp.kind) (curve_point ramp.positions ramp.channels t (place_near ramp.positions t i) (drawn_along ramp t i s)) (point_near ramp t i)

pub record GoesAlong (ramp : Ramp) (t : Float) (i : ℕ) (s s' : Drawn) (r : Point) : Type 0 where
  pub drawn : s' ≡ drawn_along ramp t i s
  pub point : r ≡ point_along ramp t i s
