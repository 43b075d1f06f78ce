-- The colours of a ramp of any kind are f32, where the lent channels are; and so are those of a list made of it. Assumes nothing.
use mathlib.Core.Bool.{Bool, true, false, cond}
use mathlib.Core.List.{List, [], ◌∷◌}
use Prim.Native.Nat.{ℕ, zero, suc, ◌+◌, ◌-◌, ◌*◌, ◌%◌}
use lib.Dec.{eqb}
use lib.ListN.{length, get_or}
use lib.Ieee.{Float, nan, binary32, add, lt, le, eq}
use lib.Ieee.Bits.{of_bits-fits}
use lib.Ieee.Fits.{nan-fits, add-fits, sub-fits, mul-fits, div-fits, cond-fits}
use Rattle.float.specs.F32.{◌⊕◌, ◌⊖◌, ◌⊗◌, ◌⊘◌, f0, f1, f2, f3, f4, half, epsilon}
use Rattle.float.specs.Number.{clamp_of}
use Rattle.blend.specs.Blend.{linear, smooth, black}
use Rattle.blend.specs.Basis.{basis, weighted_sum}
use Rattle.blend.specs.CatmullRom.{segment_at, cubic_at}
use Rattle.blend.specs.Channels.{colours_of}
use Rattle.blend.specs.Pair.{linear_pair, smooth_pair, sharp_pair, basis_pair, catmull_pair}
use Rattle.blend.specs.declared.Rgba.{Rgba}
use Rattle.blend.specs.declared.Stop.{Stop}
use Rattle.difference.specs.Measure.{SingleColour}
use Rattle.stops.specs.Lent.{Ramp}
use Rattle.stops.specs.Stops.{colour_at}
use Rattle.stops.specs.Pair.{pair_of, between, colour_in}
use Rattle.stops.specs.Place.{place_of}
use Rattle.stops.specs.declared.Kind.{Kind}
use Rattle.stops.specs.declared.Kind.TheVariants.{Linear, Smoothstep, Sharp, Basis, CatmullRom, Gimp, GimpSaved}
use Rattle.stops.specs.declared.Place.{Place}
use Rattle.stops.specs.declared.Place.TheVariants.{End, Nowhere, Between}
use Rattle.hsv.specs.There.{sixth, value_of, least_of, sixths_of, hsva_by, hsva_of}
use Rattle.hsv.specs.Back.{into_six, lightness_of, upper_of, channel_at, channel_of, channels_around, from_lightness, lightened, rgba_of}
use Rattle.hsv.specs.Mix.{there_and_back, mixed_at, counter_clockwise, clockwise}
use Rattle.hsv.specs.declared.Hsva.{Hsva}
use Rattle.gradient.specs.Ramp.{is_gimp, colour_of}
use Rattle.curve.specs.Factor.{factor_of}
use Rattle.gradient.specs.Gimp.{gimp_segment, sinusoidal_code, step_code, falling_code, segment_found, linear_factor, bent, unwaved, waved, is_hued, turned, hued, blended, segment_colour, off_domain, gimp_colour, curved_code, curved_by, curved, uncurved}
use Rattle.gradient.specs.declared.gimp.Segment.{Segment}
use Rattle.sampling.specs.Midpoints.{Gradient}
use Rattle.word.proofs.Singles.{Every, Single}

-- ---- a list of f32: past its end it is not-a-number, which is one too
get_single : (l : List Float) → Every Single l → (i : ℕ) → Single (get_or l i nan)
get_single [] w i = nan-fits binary32
get_single (x ∷ l) w zero = w.0
get_single (x ∷ l) w (suc i) = get_single l w.1 i

stop_single : (cs : List Float) → Every Single cs → (i : ℕ) → SingleColour (colour_at cs i)
stop_single cs w i = record { red = get_single cs w (4 * i); green = get_single cs w (4 * i + 1); blue = get_single cs w (4 * i + 2); alpha = get_single cs w (4 * i + 3) }

-- ---- mixes
added : (x y : Float) → Single (add binary32 x y)
added x y = add-fits binary32 x y

linear_single : (p q : Rgba) (t : Float) → SingleColour (linear p q t)
unfolding linear
linear_single p q t = record { red = added _ _; green = added _ _; blue = added _ _; alpha = added _ _ }

smooth_single : (p q : Rgba) (t : Float) → SingleColour (smooth p q t)
unfolding smooth
smooth_single p q t = record { red = added _ _; green = added _ _; blue = added _ _; alpha = added _ _ }

basis_single : (t : Float) (p q r s : Rgba) → SingleColour (basis t p q r s)
unfolding basis weighted_sum
basis_single t p q r s = record { red = div-fits binary32 _ _; green = div-fits binary32 _ _; blue = div-fits binary32 _ _; alpha = div-fits binary32 _ _ }

cubic_single : (s : List (List Float)) (t : Float) → SingleColour (segment_at s t)
unfolding segment_at cubic_at
cubic_single s t = record { red = added _ _; green = added _ _; blue = added _ _; alpha = added _ _ }

black_single : SingleColour black
black_single = record { red = of_bits-fits binary32 _; green = of_bits-fits binary32 _; blue = of_bits-fits binary32 _; alpha = of_bits-fits binary32 _ }

pick : (b : Bool) (x y : Rgba) → SingleColour x → SingleColour y → SingleColour (cond b x y)
pick true x y p q = p
pick false x y p q = q

-- ---- stops
pair_single : (kind : Kind) (cs : List Float) (n k : ℕ) (p q : Stop) (t : Float) → SingleColour p.colour → SingleColour (pair_of kind cs n k p q t)
unfolding pair_of linear_pair smooth_pair sharp_pair basis_pair catmull_pair
pair_single Linear cs n k p q t w = linear_single _ _ _
pair_single Smoothstep cs n k p q t w = smooth_single _ _ _
pair_single Sharp cs n k p q t w = pick (eqb ((k - 1) % 2) 0) _ _ w (smooth_single _ _ _)
pair_single Basis cs n k p q t w = basis_single _ _ _ _ _
pair_single CatmullRom cs n k p q t w = cubic_single _ _
pair_single Gimp cs n k p q t w = black_single
pair_single GimpSaved cs n k p q t w = black_single

place_single : (kind : Kind) (ps cs : List Float) → Every Single cs → (t : Float) (place : Place) → SingleColour (colour_in kind ps cs t place)
unfolding colour_in between
place_single kind ps cs w t (End i) = stop_single cs w i
place_single kind ps cs w t Nowhere = black_single
place_single kind ps cs w t (Between k) = pair_single kind cs (length ps) k _ _ t (stop_single cs w (k - 1))

-- ---- segments with hues: a clamped channel, a lightness
clamp_single : (x : Float) → Single x → Single (clamp_of x)
unfolding clamp_of
clamp_single x w = cond-fits binary32 (lt x f0) f0 _ (of_bits-fits binary32 _) (cond-fits binary32 (lt f1 x) f1 x (of_bits-fits binary32 _) w)

channel_single : (least most x : Float) → Single least → Single most → Single (channel_of least most x)
unfolding channel_of
channel_single least most x a b = clamp_single (channel_at least most (into_six x)) (at (into_six x))
  where
    at : (y : Float) → Single (channel_at least most y)
    at y =
        unfold channel_at in
        cond-fits binary32 (lt y f1) _ _ (added least ((most ⊖ least) ⊗ y)) (cond-fits binary32 (lt y f3) _ _ b (cond-fits binary32 (lt y f4) _ _ (added least ((most ⊖ least) ⊗ (f4 ⊖ y))) a))

around_single : (least most x a : Float) → Single least → Single most → Single a → SingleColour (channels_around least most x a)
unfolding channels_around
around_single least most x a p q w = record { red = channel_single least most _ p q; green = channel_single least most _ p q; blue = channel_single least most _ p q; alpha = w }

upper_single : (s l : Float) → Single (upper_of s l)
unfolding upper_of
upper_single s l = cond-fits binary32 (lt l half) _ _ (mul-fits binary32 l (f1 ⊕ s)) (sub-fits binary32 (l ⊕ s) (l ⊗ s))

from_single : (h s l a : Float) → Single l → Single a → SingleColour (from_lightness h s l a)
unfolding from_lightness
from_single h s l a p w =
    pick (eq s f0) (record { r = l; g = l; b = l; a = a }) (channels_around (f2 ⊗ l ⊖ upper_of s l) (upper_of s l) (h ⊘ sixth) a)
    (record { red = p; green = p; blue = p; alpha = w }) (around_single _ _ _ a (sub-fits binary32 (f2 ⊗ l) (upper_of s l)) (upper_single s l) w)

lightness_single : (s v : Float) → Single (lightness_of s v)
unfolding lightness_of
lightness_single s v = div-fits binary32 _ f2

back_single : (c : Hsva) → Single c.a → SingleColour (rgba_of c)
unfolding rgba_of lightened
back_single c w = from_single _ _ _ _ (lightness_single (clamp_of c.s) (clamp_of c.v)) (clamp_single c.a w)

kept_alpha : (c : Rgba) → Single c.a → Single (hsva_of c).a
unfolding hsva_of hsva_by
kept_alpha c w = go (eq (value_of c ⊖ least_of c) f0) (value_of c) (value_of c ⊖ least_of c)
  where
    go : (b : Bool) (v d : Float) → Single (cond {A = Hsva} b (record { h = f0; s = f0; v = v; a = c.a }) (record { h = sixths_of c.r c.g c.b v d ⊗ sixth; s = d ⊘ v; v = v; a = c.a })).a
    go true v d = w
    go false v d = w

turned_single : (colouring : ℕ) (p q : Rgba) (f : Float) → SingleColour (turned colouring p q f)
unfolding turned clockwise counter_clockwise mixed_at
turned_single colouring p q f = pick (eqb colouring falling_code) (clockwise p q f) (counter_clockwise p q f) (back_single _ (added _ _)) (back_single _ (added _ _))

there_single : (c : Rgba) → Single c.a → SingleColour (there_and_back c)
unfolding there_and_back
there_single c w = back_single (hsva_of c) (kept_alpha c w)

module _ (g : Segment) (pivot place : Float) (l : SingleColour g.lcolor) (r : SingleColour g.rcolor) where
  one_of : SingleColour (cond (le pivot place) g.rcolor g.lcolor)
  one_of = pick (le pivot place) g.rcolor g.lcolor r l

  curved_by_single : (shown : Rgba → Rgba) (between : Float → Rgba) → SingleColour (shown g.rcolor) → SingleColour (shown g.lcolor) → ((f : Float) → SingleColour (between f)) → SingleColour (curved_by shown between g pivot place)
  unfolding curved_by
  curved_by_single shown between right left at =
      pick (lt pivot epsilon) (shown g.rcolor) (cond (lt (f1 ⊖ pivot) epsilon) (shown g.lcolor) (between (factor_of place pivot))) right
      (pick (lt (f1 ⊖ pivot) epsilon) (shown g.lcolor) (between (factor_of place pivot)) left (at (factor_of place pivot)))

  curved_single : SingleColour (curved g pivot place)
  unfolding curved
  curved_single = curved_by_single (λ c. c) (linear g.lcolor g.rcolor) r l (λ f. linear_single _ _ f)

  hued_single : SingleColour (hued g pivot place)
  unfolding hued
  hued_single =
      let along_curve = curved_by there_and_back (turned g.colouring g.lcolor g.rcolor) g pivot place in
      let straight = turned g.colouring g.lcolor g.rcolor (uncurved g.blending pivot place) in
      pick (eqb g.blending step_code) (there_and_back (cond (le pivot place) g.rcolor g.lcolor)) (cond (eqb g.blending curved_code) along_curve straight)
      (there_single _ one_of.alpha)
      (pick (eqb g.blending curved_code) along_curve straight
      (curved_by_single there_and_back (turned g.colouring g.lcolor g.rcolor) (there_single _ r.alpha) (there_single _ l.alpha) (λ f. turned_single _ _ _ f)) (turned_single _ _ _ _))

  waved_single : SingleColour (waved g pivot place)
  unfolding waved
  waved_single = linear_single _ _ _

  unwaved_single : SingleColour (unwaved g pivot place)
  unfolding unwaved
  unwaved_single = pick (eqb g.blending step_code) (cond (le pivot place) g.rcolor g.lcolor) (linear g.lcolor g.rcolor (bent g.blending (linear_factor pivot place))) one_of (linear_single _ _ _)

  blended_single : SingleColour (blended g pivot place)
  unfolding blended
  blended_single =
      let uncurved_colour = cond (eqb g.blending sinusoidal_code) (waved g pivot place) (unwaved g pivot place) in
      pick (is_hued g.colouring) (hued g pivot place) (cond (eqb g.blending curved_code) (curved g pivot place) uncurved_colour) hued_single
      (pick (eqb g.blending curved_code) (curved g pivot place) uncurved_colour curved_single
      (pick (eqb g.blending sinusoidal_code) (waved g pivot place) (unwaved g pivot place) waved_single unwaved_single))

gimp_single : (ps cs : List Float) (ks : List ℕ) → Every Single cs → (t : Float) → SingleColour (gimp_colour ps cs ks t)
unfolding gimp_colour segment_colour gimp_segment
gimp_single ps cs ks w t =
    let i = segment_found ps t in
    pick (off_domain t) black (segment_colour (gimp_segment ps cs ks i) t) black_single (blended_single (gimp_segment ps cs ks i) _ _ (stop_single cs w (2 * i)) (stop_single cs w (2 * i + 1)))

-- ---- a ramp of any kind, at any t
pub colour_single : (ramp : Ramp) → Every Single ramp.channels → (t : Float) → SingleColour (colour_of ramp t)
unfolding colour_of
colour_single ramp w t =
    let ps = ramp.positions in
    pick (is_gimp ramp.kind) (gimp_colour ps ramp.channels ramp.codes t) (colour_in ramp.kind ps ramp.channels t (place_of ps t)) (gimp_single ps ramp.channels ramp.codes w t)
    (place_single ramp.kind ps ramp.channels w t (place_of ps t))

-- ---- the channels of a list made of it
pub colours_single : (g : Gradient) → ((t : Float) → SingleColour (g t)) → (ts : List Float) → Every Single (colours_of g ts)
unfolding colours_of
colours_single g w [] = tt
colours_single g w (t ∷ ts) = let c = w t in (c.red, (c.green, (c.blue, (c.alpha, colours_single g w ts))))
