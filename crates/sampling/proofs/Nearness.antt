-- The colour of a checked ramp at a point is the ramp's, whichever pair is tried first. Assumes nothing.
use mathlib.Core.Path.{◌≡◌, refl, sym, ap, ◌∙◌, subst}
use mathlib.Core.Bool.{Bool, true, false, cond}
use mathlib.Core.List.{List}
use Prim.Native.Nat.{ℕ}
use lib.Ieee.{Float}
use Rattle.stops.specs.Lent.{Ramp, ramp_of}
use Rattle.blend.specs.Blend.{black}
use Rattle.blend.specs.declared.Rgba.{Rgba}
use Rattle.stops.specs.Stops.{colour_at}
use Rattle.stops.specs.Near.{place_near}
use Rattle.stops.specs.Pair.{between, colour_in}
use Rattle.stops.specs.Place.{place_of}
use Rattle.stops.specs.declared.Checked.TheVariants.{Fine}
use Rattle.stops.specs.declared.Place.{Place}
use Rattle.stops.specs.declared.Place.TheVariants.{End, Nowhere, Between}
use Rattle.stops.specs.declared.Kind.{Kind}
use Rattle.stops.proofs.Nearby.{near_same}
use Rattle.gradient.proofs.Valid.{valid}
use Rattle.gradient.specs.Gimp.{gimp_colour}
use Rattle.gradient.specs.Ramp.{is_gimp, check_of, colour_of}
use Rattle.sampling.specs.Segments.{point_of, placed_point, point_near}
use Rattle.sampling.specs.inner.Steps.{PointAt}
use Rattle.sampling.specs.declared.Point.{Point}

-- ---- the point, from what the calls gave
module _ (kind : Kind) (ps cs : List Float) (t : Float) {w : Place} where
  pub by_end : {z : Rgba} (i : ℕ) → w ≡ End i → z ≡ colour_at cs i → point_of z t 0 ≡ placed_point kind ps cs t w
  by_end i h e = rw (e, h)

  pub by_nowhere : w ≡ Nowhere → point_of black t 0 ≡ placed_point kind ps cs t w
  by_nowhere h = rw h

  pub by_between : {z : Rgba} (k : ℕ) → w ≡ Between k → z ≡ between kind ps cs k t → point_of z t k ≡ placed_point kind ps cs t w
  by_between k h e = rw (e, h)

module _ (kind : Kind) (ps cs : List Float) (ks : List ℕ) (t : Float) (guess : ℕ) {b : Bool} (h : b ≡ is_gimp kind) where
  pub by_gimp : {z : Rgba} → b ≡ true → z ≡ gimp_colour ps cs ks t → point_of z t 0 ≡ point_near (ramp_of kind ps cs ks) t guess
  unfolding point_near
  by_gimp e f = rw (f, ← h, e)

  pub by_stops : {w : Place} {p : Point} → b ≡ false → w ≡ place_near ps t guess → p ≡ placed_point kind ps cs t w → p ≡ point_near (ramp_of kind ps cs ks) t guess
  unfolding point_near
  by_stops e place f = rw (f, ← h, e, place)

-- ---- its colour
module _ (kind : Kind) (ps cs : List Float) (t : Float) where
  pub placed_is : (w : Place) → ((placed_point kind ps cs t w).t ≡ t) × ((placed_point kind ps cs t w).colour ≡ colour_in kind ps cs t w)
  unfolding colour_in
  placed_is (End i) = (refl, refl)
  placed_is Nowhere = (refl, refl)
  placed_is (Between k) = (refl, refl)

pub near_t : (ramp : Ramp) (t : Float) (k : ℕ) → (point_near ramp t k).t ≡ t
unfolding point_near
near_t ramp t k = go (is_gimp ramp.kind)
  where
    go : (g : Bool) → (cond g (point_of (gimp_colour ramp.positions ramp.channels ramp.codes t) t 0) (placed_point ramp.kind ramp.positions ramp.channels t (place_near ramp.positions t k))).t ≡ t
    go true = refl
    go false = (placed_is ramp.kind ramp.positions ramp.channels t (place_near ramp.positions t k)).0

module _ (ramp : Ramp) (fine : check_of ramp ≡ Fine) where
  near_is : (t : Float) (k : ℕ) → PointAt (colour_of ramp) t (point_near ramp t k)
  unfolding point_near colour_of
  near_is t k = go (is_gimp ramp.kind) refl
    where
      ps : List Float
      ps = ramp.positions

      cs : List Float
      cs = ramp.channels

      gimp : Rgba
      gimp = gimp_colour ps cs ramp.codes t

      go : (g : Bool) → is_gimp ramp.kind ≡ g → PointAt (λ (x : Float). cond g (gimp_colour ps cs ramp.codes x) (colour_in ramp.kind ps cs x (place_of ps x))) t (cond g (point_of gimp t 0) (placed_point ramp.kind ps cs t (place_near ps t k)))
      go true e = (refl, refl)
      go false e =
          let v = valid ramp e fine in
          let p = placed_is ramp.kind ps cs t (place_near ps t k) in
          (p.0, p.1 ∙ ap (colour_in ramp.kind ps cs t) (near_same ps v.sized.least v.rising t k) ∙ ap (λ (x : Float). colour_in ramp.kind ps cs x (place_of ps x)) (sym p.0))

  pub near_point : (p : Point) (t : Float) (k : ℕ) → p ≡ point_near ramp t k → PointAt (colour_of ramp) t p
  near_point p t k e = subst (PointAt (colour_of ramp) t) (sym e) (near_is t k)
