-- A list that is not refused, of any points: at every point it is as near the ramp as it may be off there, and at min and max within the hold. Assumes nothing.
use mathlib.Core.Path.{◌≡◌, refl, sym, subst}
use mathlib.Core.Bool.{Bool, true, false, cond}
use mathlib.Core.List.{List, [], ◌∷◌}
use Prim.Native.Nat.{ℕ, suc, ◌+◌, ◌-◌, ◌<◌}
use native.Mathlib.Omega.{arith}
use lib.Dec.{T}
use lib.ListN.{length}
use lib.Ieee.{Float, le, lt}
use Rattle.stops.specs.Lent.{Ramp}
use Rattle.stops.specs.Stops.{pos_at, finite_rgba}
use Rattle.gradient.specs.Ramp.{min_of, max_of, colour_of}
use Rattle.sampling.specs.Constants.{threshold_of}
use Rattle.sampling.specs.Midpoints.{Gradient}
use Rattle.thinning.specs.Kept.{stop_refusal}
use Rattle.weighed.specs.Points.{Site, own_of, sites_of}
use Rattle.within.specs.Shown.{Near, off_at, near_within}
use Rattle.within.specs.Kept.{Kept, kept_from, kept_all, positions_of, kept_refusal, kept_refusals}
use Rattle.refusals.specs.Refusals.{not_shown}
use Rattle.within.specs.Lists.{hold_of, kept_of, list_within, refusal_within}
use Rattle.weighed.proofs.Merging.{Rises, rises}
use Rattle.within.proofs.Limits.{self_near}
use Rattle.word.specs.Word.{NearBy}
use Rattle.word.proofs.Weighed.{site_in, above_all, all-below, AllShown, weighed}
use Rattle.word.proofs.Colours.{first_colour, last_colour, near_site}
use Rattle.word.proofs.Emitted.{both_zero, least, colour_finite, first-is, last_is}

-- ---- no refusal: every pair shows what it must
shown_of : (b : Bool) → cond b 0 not_shown ≡ 0 → b ≡ true
shown_of true h = refl
shown_of false h = absurd (omega arith)

all_shown : (g : Gradient) (room n : ℕ) (ks : List Kept) → kept_refusals g room n ks ≡ 0 → AllShown ks
unfolding kept_refusals kept_refusal
all_shown g room n [] h = tt
all_shown g room n (k ∷ ks) h =
    let w = both_zero (kept_refusal g room n k) (kept_refusals g room (n + 1) ks) h in
    (shown_of k.shown (both_zero (stop_refusal room n k.t k.t (g k.t)) (cond k.shown 0 not_shown) w.0).1, all_shown g room (n + 1) ks w.1)

module _ (ramp : Ramp) (asked hold : Float) (ts : List Float) (room : ℕ) (done : refusal_within ramp asked hold room ts ≡ 0) where
  abbrev lo : Float
  lo = min_of ramp

  abbrev hi : Float
  hi = max_of ramp

  abbrev g : Gradient
  g = colour_of ramp

  abbrev ps : List Float
  ps = positions_of (kept_of ramp asked hold ts)

  -- ---- at the ends the list has the ramp's colour
  end_finite : (i : ℕ) (t : Float) → i < length ps → pos_at ps i ≡ t → finite_rgba (g t) ≡ true
  end_finite i t l e = subst (λ (x : Float). finite_rgba (g x) ≡ true) e (colour_finite ramp asked hold room ts done i l)

  pub near_min : T (le lo lo) → NearBy ramp (list_within ramp asked hold ts) (hold_of asked hold) lo
  unfolding list_within
  near_min h =
      let two = least ramp asked hold room ts done in
      let e = first-is ramp asked hold room ts done in
      let same : T (le (pos_at ps 0) (pos_at ps 0)) = rw e h in
      subst (λ (t : Float). NearBy ramp (list_within ramp asked hold ts) (hold_of asked hold) t) e
      (rw (first_colour g ps (omega arith) same) (self_near asked hold (g (pos_at ps 0)) (colour_finite ramp asked hold room ts done 0 (omega arith))))

  pub near_max : T (lt lo hi) → NearBy ramp (list_within ramp asked hold ts) (hold_of asked hold) hi
  unfolding list_within
  near_max wide =
      let two = least ramp asked hold room ts done in
      let e = last_is ramp asked hold room ts done in
      let after : T (lt (pos_at ps 0) hi) = rw (first-is ramp asked hold room ts done) wide in
      rw (last_colour g ps hi (sym e) (omega arith) after) (self_near asked hold (g hi) (end_finite (length ps - 1) hi (omega arith) e))

  -- ---- every point, by how far it may be off
  module _ (wide : T (lt lo hi)) where
    abbrev sites : List Site
    sites = sites_of ramp ts

    abbrev near : Near
    near = near_within (threshold_of asked) (hold_of asked hold)

    they_rise : Rises hi lo sites
    unfolding sites_of
    they_rise = rises hi (length ts + length (own_of ramp.positions)) lo ts (own_of ramp.positions) wide

    pairs_shown : AllShown (kept_from g near hi (suc (length sites)) lo sites)
    unfolding refusal_within kept_of kept_all
    pairs_shown = (all_shown g _ 0 _ done).1

    pub near_point : (i : ℕ) → i < length sites → NearBy ramp (list_within ramp asked hold ts) (off_at (threshold_of asked) (hold_of asked hold) (site_in sites i).mark) (site_in sites i).t
    unfolding list_within kept_of kept_all
    near_point i l =
        near_site g ps (threshold_of asked) (hold_of asked hold) (site_in sites i)
        (weighed g near hi (suc (length sites)) lo sites (omega arith) they_rise pairs_shown i l)
        (rw (first-is ramp asked hold room ts done) (above_all hi lo sites i they_rise l))
        (rw (last_is ramp asked hold room ts done) (all-below hi lo sites i they_rise l))
