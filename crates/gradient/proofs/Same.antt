-- On a ramp that passes the check, the colour found by narrowing is the document's. Assumes nothing.
use mathlib.Core.Path.{◌≡◌, refl, ap, fun_ext}
use mathlib.Core.Bool.{Bool, true, false, cond}
use lib.Ieee.{Float}
use Rattle.blend.specs.declared.Rgba.{Rgba}
use Rattle.stops.specs.Lent.{Ramp}
use Rattle.stops.specs.Place.{place_of, place_in}
use Rattle.stops.specs.Pair.{colour_in}
use Rattle.stops.specs.declared.Checked.TheVariants.{Fine}
use Rattle.stops.specs.declared.Place.{Place}
use Rattle.stops.proofs.Same.{same_place}
use Rattle.gradient.specs.Gimp.{gimp_colour}
use Rattle.gradient.specs.Ramp.{is_gimp, check_of, colour_of, any_colour}
use Rattle.gradient.proofs.Valid.{valid}

module _ (ramp : Ramp) (fine : check_of ramp ≡ Fine) where
  pub same_colour : (t : Float) → any_colour ramp t ≡ colour_of ramp t
  unfolding any_colour colour_of
  same_colour t = go (is_gimp ramp.kind) refl
    where
      either : Bool → Place → Rgba
      either g w = cond g (gimp_colour ramp.positions ramp.channels ramp.codes t) (colour_in ramp.kind ramp.positions ramp.channels t w)

      go : (g : Bool) → is_gimp ramp.kind ≡ g → either g (place_in ramp.positions t) ≡ either g (place_of ramp.positions t)
      go true e = refl
      go false e = let v = valid ramp e fine in ap (either false) (same_place ramp.positions v.sized.least v.rising t)

  -- as functions of t
  pub same_function : any_colour ramp ≡ colour_of ramp
  same_function = fun_ext same_colour
