-- GIMP segments: their check, and their colour at t. The evaluation of item 6 of document 01's 'Ramps carried', and the last point of 'What a GIMP file may hold'; document 02 (i), (ix); curved segments, an addition of our own (docs/RULES.md).
-- Segment i has positions 3i, 3i + 1, 3i + 2 (left, middle, right), channels 8i to 8i + 7 (left r g b a, right r g b a) and codes 2i, 2i + 1 (blending, colouring).
-- Past the end of a list a number is not-a-number and a code is 0, so that any lists at all have a colour.
use Rattle.std.specs.Prelude.{ℕ, zero, suc, ◌+◌, ◌*◌, ◌/◌, Bool, true, false, cond, ◌&&◌, ◌||◌, List, leb, ltb, eqb, length, get_or, Float}
use Rattle.std.specs.Float.Ieee.{le, lt, is_nan}
use Rattle.refusals.specs.Refusals.{misshapen, not_finite}
use Rattle.refusals.specs.Limits.{most_segments}
use Rattle.float.specs.F32.{◌⊕◌, ◌⊖◌, ◌⊗◌, ◌⊘◌, f0, f1, half, epsilon}
use Rattle.sqrt.specs.Root.{root_of}
use Rattle.sine.specs.Wave.{wave_of}
use Rattle.curve.specs.Factor.{factor_of}
use Rattle.hsv.specs.Mix.{there_and_back, counter_clockwise, clockwise}
use Rattle.blend.specs.Blend.{linear, black}
use Rattle.blend.specs.Finite.{all_finite}
use Rattle.blend.specs.declared.Rgba.{Rgba}
use Rattle.stops.specs.Stops.{pos_at, colour_at}
use Rattle.stops.specs.declared.Kind.{Kind}
use Rattle.stops.specs.declared.Kind.TheVariants.{Linear, Smoothstep, Sharp, Basis, CatmullRom, Gimp, GimpSaved}
use Rattle.stops.specs.declared.Checked.{Checked}
use Rattle.stops.specs.declared.Checked.TheVariants.{Fine, Refused}
use Rattle.gradient.specs.declared.gimp.Segment.{Segment}

-- how many segments: three positions each
abbrev pub segments : List Float → ℕ
segments ps = length ps / 3

abbrev pub left_at : List Float → ℕ → Float
left_at ps i = pos_at ps (3 * i)

abbrev pub middle_at : List Float → ℕ → Float
middle_at ps i = pos_at ps (3 * i + 1)

abbrev pub right_at : List Float → ℕ → Float
right_at ps i = pos_at ps (3 * i + 2)

abbrev pub blending_at : List ℕ → ℕ → ℕ
blending_at ks i = get_or ks (2 * i) 0

abbrev pub colouring_at : List ℕ → ℕ → ℕ
colouring_at ks i = get_or ks (2 * i + 1) 0

-- segment i of the lists
unfoldable pub gimp_segment : List Float → List Float → List ℕ → ℕ → Segment
gimp_segment ps cs ks i = record {
  left = left_at ps i;
  middle = middle_at ps i;
  right = right_at ps i;
  lcolor = colour_at cs (2 * i);
  rcolor = colour_at cs (2 * i + 1);
  blending = blending_at ks i;
  colouring = colouring_at ks i;
}

-- ---- what is carried: blending linear, sinusoidal, spherical increasing, spherical decreasing, step, and curved by one kind of ramp; colouring RGB, which is 0, and HSV with hues that rise or fall
abbrev pub linear_code : ℕ
linear_code = 0

abbrev pub curved_code : ℕ
curved_code = 1

abbrev pub sinusoidal_code : ℕ
sinusoidal_code = 2

abbrev pub increasing_code : ℕ
increasing_code = 3

abbrev pub decreasing_code : ℕ
decreasing_code = 4

abbrev pub step_code : ℕ
step_code = 5

abbrev pub rising_code : ℕ
rising_code = 1

abbrev pub falling_code : ℕ
falling_code = 2

-- the middle is not outside the ends. Values are compared, so that -0 is 0
abbrev pub in_order : Float → Float → Float → Bool
in_order left middle right = le left middle && le middle right

-- the kind of ramp whose segments may be curved
abbrev pub takes_curved : Kind → Bool
takes_curved Linear = false
takes_curved Smoothstep = false
takes_curved Sharp = false
takes_curved Basis = false
takes_curved CatmullRom = false
takes_curved Gimp = false
takes_curved GimpSaved = true

-- the blendings of which the middle is asked too: sinusoidal, and curved where the kind takes it
abbrev pub asks_middle : Kind → ℕ → Bool
asks_middle kind blending = cond (eqb blending curved_code) (takes_curved kind) (eqb blending sinusoidal_code)

-- A sinusoidal or curved segment is carried where its middle is not outside its ends: document 02 (i), and by our own rule. Of the others nothing is asked but the codes.
unfoldable pub carried : Kind → ℕ → ℕ → Float → Float → Float → Bool
carried kind blending colouring left middle right =
    leb colouring falling_code
    && cond (asks_middle kind blending) (in_order left middle right)
    (eqb blending linear_code || eqb blending increasing_code || eqb blending decreasing_code || eqb blending step_code)

abbrev pub carried_of : Kind → Segment → Bool
carried_of kind g = carried kind g.blending g.colouring g.left g.middle g.right

-- ---- the check
-- segment i
abbrev pub carried_at : Kind → List Float → List ℕ → ℕ → Bool
carried_at kind ps ks i = carried kind (blending_at ks i) (colouring_at ks i) (left_at ps i) (middle_at ps i) (right_at ps i)

-- the next `left` segments, from segment i on
unfoldable pub all_carried : Kind → ℕ → ℕ → List Float → List ℕ → Bool
all_carried kind zero i ps ks = true
all_carried kind (suc left) i ps ks = carried_at kind ps ks i && all_carried kind left (suc i) ps ks

-- n segments, one to the most, and lengths that agree with it: positions, channels, codes
unfoldable pub gimp_shaped : ℕ → ℕ → ℕ → ℕ → Bool
gimp_shaped n p c k = leb 1 n && leb n most_segments && eqb p (3 * n) && eqb c (8 * n) && eqb k (2 * n)

-- all of 1, then 2. Falling positions are not asked after
unfoldable pub gimp_check : Kind → List Float → List Float → List ℕ → Checked
gimp_check kind ps cs ks =
    cond (gimp_shaped (segments ps) (length ps) (length cs) (length ks) && all_carried kind (segments ps) 0 ps ks)
    (cond (all_finite ps && all_finite cs) Fine (Refused not_finite))
    (Refused misshapen)

-- ---- the search
-- The segment tried last, of those from low to before high; `tried` is the one tried before, and at most `left` are tried.
-- It starts at the middle of the remaining range; the first hit wins.
unfoldable pub search : ℕ → List Float → Float → ℕ → ℕ → ℕ → ℕ
search zero ps t tried low high = tried
search (suc left) ps t tried low high =
    let mid = (low + high) / 2 in
    cond (ltb low high)
    (cond (lt (right_at ps mid) t) (search left ps t mid (mid + 1) high) (cond (lt t (left_at ps mid)) (search left ps t mid low mid) mid))
    tried

unfoldable pub segment_found : List Float → Float → ℕ
segment_found ps t = search (segments ps) ps t 0 0 (segments ps)

-- ---- the factor
-- where x lies from left, 0, to right, 1; a length below 2^-23 makes it 0.5
unfoldable pub along : Float → Float → Float → Float
along left right x = cond (lt (right ⊖ left) epsilon) half ((x ⊖ left) ⊘ (right ⊖ left))

-- 0.5 at the middle, and straight on each side of it
unfoldable pub linear_factor : Float → Float → Float
linear_factor middle place =
    cond (le place middle)
    (cond (lt middle epsilon) f0 (half ⊗ place ⊘ middle))
    (cond (lt (f1 ⊖ middle) epsilon) f1 (half ⊕ half ⊗ (place ⊖ middle) ⊘ (f1 ⊖ middle)))

-- a quarter of a circle
unfoldable pub increasing : Float → Float
increasing f = root_of (f1 ⊖ (f ⊖ f1) ⊗ (f ⊖ f1))

unfoldable pub decreasing : Float → Float
decreasing f = f1 ⊖ root_of (f1 ⊖ f ⊗ f)

-- of every blending but the sinusoidal and the curved one; one that is not carried is taken as linear
unfoldable pub bent : ℕ → Float → Float
bent blending f =
    cond (eqb blending increasing_code) (increasing f) (cond (eqb blending decreasing_code) (decreasing f) f)

-- ---- the colour, channel by channel
-- a segment's colour at a place, where `pivot` is the place of its middle and neither sine nor curve is asked for. A step gives one of the two colours itself
unfoldable pub unwaved : Segment → Float → Float → Rgba
unwaved g pivot place =
    cond (eqb g.blending step_code)
    (cond (le pivot place) g.rcolor g.lcolor)
    (linear g.lcolor g.rcolor (bent g.blending (linear_factor pivot place)))

-- the same of a sinusoidal one: by the table's wave, which clamps the factor first
unfoldable pub waved : Segment → Float → Float → Rgba
waved g pivot place = linear g.lcolor g.rcolor (wave_of (linear_factor pivot place))

-- A curved one goes along the curve that is half done at the middle. A middle within 2^-23 of an end leaves no curve, and one of the two colours is shown.
-- `shown` says how such a colour is shown, `between` what lies between the two at a factor
unfoldable pub curved_by : (Rgba → Rgba) → (Float → Rgba) → Segment → Float → Float → Rgba
curved_by shown between g pivot place =
    cond (lt pivot epsilon) (shown g.rcolor)
    (cond (lt (f1 ⊖ pivot) epsilon) (shown g.lcolor) (between (factor_of place pivot)))

unfoldable pub curved : Segment → Float → Float → Rgba
curved g pivot place = curved_by (λ c. c) (linear g.lcolor g.rcolor) g pivot place

-- ---- the colour, by hue
abbrev pub is_hued : ℕ → Bool
is_hued colouring = eqb colouring rising_code || eqb colouring falling_code

-- the factor of any blending but the curved one
unfoldable pub uncurved : ℕ → Float → Float → Float
uncurved blending pivot place =
    cond (eqb blending sinusoidal_code) (wave_of (linear_factor pivot place)) (bent blending (linear_factor pivot place))

unfoldable pub turned : ℕ → Rgba → Rgba → Float → Rgba
turned colouring p q f = cond (eqb colouring falling_code) (clockwise p q f) (counter_clockwise p q f)

-- a step shows one of the two colours, converted there and back
unfoldable pub hued : Segment → Float → Float → Rgba
hued g pivot place =
    cond (eqb g.blending step_code)
    (there_and_back (cond (le pivot place) g.rcolor g.lcolor))
    (cond (eqb g.blending curved_code)
    (curved_by there_and_back (turned g.colouring g.lcolor g.rcolor) g pivot place)
    (turned g.colouring g.lcolor g.rcolor (uncurved g.blending pivot place)))

-- ---- the one rule of blending. A colouring that is not carried is taken as RGB
unfoldable pub blended : Segment → Float → Float → Rgba
blended g pivot place =
    cond (is_hued g.colouring) (hued g pivot place)
    (cond (eqb g.blending curved_code) (curved g pivot place)
    (cond (eqb g.blending sinusoidal_code) (waved g pivot place) (unwaved g pivot place)))

-- what is costly to work out at each point: by hue, or along a curve
abbrev pub is_costly : ℕ → ℕ → Bool
is_costly blending colouring = is_hued colouring || eqb blending curved_code

unfoldable pub costly : Segment → Float → Float → Rgba
costly g pivot place = cond (is_hued g.colouring) (hued g pivot place) (curved g pivot place)

-- a segment at t, which need not lie in it
unfoldable pub segment_colour : Segment → Float → Rgba
segment_colour g t = blended g (along g.left g.right g.middle) (along g.left g.right t)

-- the domain is 0..1
unfoldable pub off_domain : Float → Bool
off_domain t = lt t f0 || lt f1 t || is_nan t

unfoldable pub gimp_colour : List Float → List Float → List ℕ → Float → Rgba
gimp_colour ps cs ks t =
    cond (off_domain t) black (segment_colour (gimp_segment ps cs ks (segment_found ps t)) t)
