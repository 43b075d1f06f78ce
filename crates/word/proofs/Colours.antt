-- A list's colour at a point that was weighed is the mix that was weighed. Assumes nothing.
use mathlib.Core.Path.{◌≡◌, sym, ap, ◌∙◌, subst}
use mathlib.Core.List.{List}
use Prim.Native.Nat.{ℕ, suc, ◌-◌, ◌≤◌, ◌<◌}
use native.Mathlib.Omega.{arith}
use lib.Dec.{T}
use lib.ListN.{length}
use lib.Ieee.{Float, le, lt}
use lib.Ieee.Bits.{is_true}
use Rattle.float.specs.F32.{◌⊖◌, ◌⊘◌}
use Rattle.float.proofs.Order.{as_T, lt→le, le_refl, no_nan_l, no_nan_r}
use Rattle.blend.specs.Blend.{linear}
use Rattle.blend.specs.Pair.{linear_pair}
use Rattle.blend.specs.Channels.{colours_of}
use Rattle.blend.specs.declared.Rgba.{Rgba}
use Rattle.difference.specs.Difference.{distance_of}
use Rattle.stops.specs.Stops.{pos_at}
use Rattle.stops.specs.Place.{place_of}
use Rattle.stops.specs.Pair.{pair_of, between, colour_in}
use Rattle.stops.specs.declared.Kind.TheVariants.{Linear}
use Rattle.stops.specs.declared.Place.TheVariants.{Between}
use Rattle.stops.proofs.Choice.{place_first, place_last, place_between}
use Rattle.gradient.specs.Ramp.{colour_of}
use Rattle.sampling.specs.Midpoints.{Gradient}
use Rattle.judge.specs.Lists.{offer_of, offered_ramp}
use Rattle.ordinary.proofs.Unrefused.{colour_written}
use Rattle.weighed.specs.Points.{Site}
use Rattle.within.specs.Shown.{off_at, near_within, fairly}
use Rattle.word.proofs.Weighed.{Weighed, not-le}

module _ (g : Gradient) (ps : List Float) where
  abbrev pub list_colour : Float → Rgba
  list_colour = colour_of (offered_ramp (offer_of ps (colours_of g ps)))

  between_is : (j : ℕ) (t : Float) → suc j < length ps
      → between Linear ps (colours_of g ps) (suc j) t ≡ linear (g (pos_at ps j)) (g (pos_at ps (suc j))) ((t ⊖ pos_at ps j) ⊘ (pos_at ps (suc j) ⊖ pos_at ps j))
  unfolding between pair_of linear_pair
  between_is j t l =
      let e : suc j - 1 ≡ j = omega arith in
      rw (e, colour_written g ps j (omega arith), colour_written g ps (suc j) l)

  -- strictly between the ends, with the pair known
  inner_colour : (t : Float) (j : ℕ) → place_of ps t ≡ Between (suc j) → suc j < length ps
      → list_colour t ≡ linear (g (pos_at ps j)) (g (pos_at ps (suc j))) ((t ⊖ pos_at ps j) ⊘ (pos_at ps (suc j) ⊖ pos_at ps j))
  unfolding colour_of colour_in
  inner_colour t j e l = rw e (between_is j t l)

  -- at the ends it is the colour there
  pub first_colour : 1 ≤ length ps → T (le (pos_at ps 0) (pos_at ps 0)) → list_colour (pos_at ps 0) ≡ g (pos_at ps 0)
  unfolding colour_of colour_in
  first_colour l h = rw (place_first ps (pos_at ps 0) (is_true _ h)) (colour_written g ps 0 l)

  pub last_colour : (t : Float) → t ≡ pos_at ps (length ps - 1) → 1 ≤ length ps → T (lt (pos_at ps 0) t) → list_colour t ≡ g t
  unfolding colour_of colour_in
  last_colour t e l h =
      let n = le_refl t (no_nan_r (pos_at ps 0) t (lt→le (pos_at ps 0) t h)) in
      rw (place_last ps t (not-le (pos_at ps 0) t h) (is_true _ (subst (λ (x : Float). T (le x t)) e n)), colour_written g ps (length ps - 1) (omega arith)) (ap g (sym e))

  module _ (threshold hold : Float) (s : Site) (w : Weighed g (near_within threshold hold) ps s) (lower : T (lt (pos_at ps 0) s.t)) (upper : T (lt s.t (pos_at ps (length ps - 1)))) where
    place : place_of ps s.t ≡ Between (suc w.j)
    place =
        place_between ps s.t (not-le (pos_at ps 0) s.t lower) (not-le s.t (pos_at ps (length ps - 1)) upper) (no_nan_l s.t (pos_at ps (length ps - 1)) (lt→le s.t (pos_at ps (length ps - 1)) upper))
        ∙ ap Between w.first

    pub near_site : T (le (distance_of (g s.t) (list_colour s.t)) (off_at threshold hold s.mark))
    unfolding fairly near_within
    near_site = rw (inner_colour s.t w.j place w.inside) (as_T _ w.fair)
