-- The answers, from what the functions within promise. Assumes nothing.
use mathlib.Core.Path.{◌≡◌, sym, ap, ◌∙◌}
use mathlib.Core.Bool.{Bool, true, false, cond}
use mathlib.Core.List.{List}
use Prim.Native.Nat.{ℕ, ◌+◌, ◌-◌, ◌*◌, ◌≤◌, ◌<◌}
use lib.ListN.{get_or}
use lib.Ieee.{Float, nan, le}
use Rattle.blend.specs.declared.Rgba.{Rgba}
use Rattle.stops.specs.Lent.{Ramp}
use Rattle.stops.specs.declared.Checked.TheVariants as checked
use Rattle.stops.specs.declared.Checked.TheVariants.{Fine}
use Rattle.stops.specs.Place.{place_in}
use Rattle.stops.specs.Pair.{colour_in}
use Rattle.stops.specs.declared.Kind.TheVariants.{Linear}
use Rattle.gradient.specs.Ramp.{min_of, max_of, colour_of, any_colour}
use Rattle.gradient.proofs.Same.{same_function}
use Rattle.sampling.specs.Constants.{threshold_of}
use Rattle.sampling.specs.Midpoints.{Gradient}
use Rattle.sampling.specs.Lent.{Held}
use Rattle.sampling.specs.Sampling.{fresh}
use Rattle.sampling.proofs.Checks.{ramp_fine}
use Rattle.difference.specs.Difference.{distance_of}
use Rattle.judge.specs.Lists.{Offer, offered_ramp}
use Rattle.judge.specs.Verdicts.{number_of_verdict, ramp_check, close, far_in, rows_verdict, all_verdict, point_count, fresh_point, close_at, shape_verdict, points_verdict, list_verdict, verdict_of}
use Rattle.judge.specs.inner.Steps.{Sound, any_close, far_from, record_verdict}
use Rattle.judge.specs.declared.Verdict.{Verdict}
use Rattle.judge.specs.declared.Verdict.TheVariants.{Yes, TooFar, Refused}
use Rattle.judge.specs.Promises.{Judges}
use Rattle.judge.proofs.Listing.{offered_any, offered_colour}
use Rattle.judge.proofs.Walking.{begun, stops_at, goes_past, all_past, all_number}
use Rattle.judge.proofs.Sampled.{fresh_points}
use Rattle.judge.proofs.Shaping.{shape_number, Shaped, shape_yes, yes_shape, shape_no}

-- ---- one point
pub close_is : (ramp : Ramp) (offer : Offer) (threshold t : Float) {d : Float} {x y : Rgba} → x ≡ any_colour ramp t
    → y ≡ colour_in Linear offer.positions offer.channels t (place_in offer.positions t) → d ≡ distance_of x y
    → le d threshold ≡ any_close ramp offer threshold t
unfolding close
close_is ramp offer threshold t a b e = rw (e, a, b ∙ offered_any offer t)

-- ---- a record, row by row
far_is : (near : Float → Bool) (rows : List Float) (counts : List ℕ) (i : ℕ) {j : ℕ} → j ≡ far_from near rows (i * 128) (get_or counts i 0)
    → j ≡ far_in near (λ r. get_or counts r 0) (λ r k. get_or rows (r * 128 + k) nan) i
unfolding far_in
far_is near rows counts i e = e

module _ (near : Float → Bool) (rows : List Float) (counts : List ℕ) (max : Float) where
  -- the verdict from row i on
  abbrev pub onwards : ℕ → Verdict
  onwards i = rows_verdict near (λ r. get_or counts r 0) (λ r k. get_or rows (r * 128 + k) nan) (36 - i) i (cond (near max) Yes (TooFar 36 0 max))

  pub from_first : onwards 0 ≡ record_verdict near rows counts max
  from_first = begun near (λ r. get_or counts r 0) (λ r k. get_or rows (r * 128 + k) nan) max

  module _ (i : ℕ) where
    pub row_far : (j : ℕ) → i < 36 → j ≡ far_from near rows (i * 128) (get_or counts i 0) → j < get_or counts i 0 → onwards i ≡ TooFar i j (get_or rows (i * 128 + j) nan)
    row_far j h e l = stops_at near _ _ i _ j h (far_is near rows counts i e) l

    pub row_near : (j : ℕ) → i < 36 → j ≡ far_from near rows (i * 128) (get_or counts i 0) → get_or counts i 0 ≤ j → onwards (i + 1) ≡ onwards i
    row_near j h e l = goes_past near _ _ i _ j h (far_is near rows counts i e) l

    pub end_far : 36 ≤ i → near max ≡ false → onwards i ≡ TooFar 36 0 max
    end_far h e = all_past near _ _ i _ h ∙ rw e

    pub end_near : 36 ≤ i → near max ≡ true → onwards i ≡ Yes
    end_near h e = all_past near _ _ i _ h ∙ rw e

-- ---- the colours of a list, at the points of a fresh sampling
module _ (ramp : Ramp) (asked : Float) (offer : Offer) where
  same_close : ramp_check ramp ≡ Fine → Sound offer → any_close ramp offer (threshold_of asked) ≡ close_at ramp asked offer
  same_close fine w =
      ap (λ (g : Gradient). close g (any_colour (offered_ramp offer)) (threshold_of asked)) (same_function ramp (ramp_fine ramp 4608 36 3 fine))
      ∙ ap (λ (h : Gradient). close (colour_of ramp) h (threshold_of asked)) (offered_colour offer w)

  pub colours_judged : (is : Held) (threshold max : Float) {v : Verdict} → ramp_check ramp ≡ Fine → Sound offer → is ≡ fresh ramp asked → threshold ≡ threshold_of asked → max ≡ max_of ramp
      → v ≡ record_verdict (any_close ramp offer threshold) is.rows is.counts max → v ≡ points_verdict ramp asked offer
  unfolding points_verdict
  colours_judged is threshold max fine w e p q f =
      f ∙ ap (λ (x : Float). record_verdict (any_close ramp offer x) is.rows is.counts max) p
      ∙ ap (λ (near : Float → Bool). record_verdict near is.rows is.counts max) (same_close fine w)
      ∙ fresh_points ramp asked is e (close_at ramp asked offer) max
      ∙ ap (all_verdict (close_at ramp asked offer) (point_count ramp asked) (fresh_point ramp asked)) q

-- ---- a no is no refusal
list_number : (ramp : Ramp) (asked : Float) (offer : Offer) → number_of_verdict (list_verdict ramp asked offer) ≡ 0
unfolding list_verdict points_verdict
list_number ramp asked offer =
    shape_number (min_of ramp) (max_of ramp) offer (all_verdict (close_at ramp asked offer) (point_count ramp asked) (fresh_point ramp asked) (max_of ramp))
    (all_number (close_at ramp asked offer) (point_count ramp asked) (fresh_point ramp asked) (max_of ramp))

-- ---- a list: its shape, then its colours
module _ (ramp : Ramp) (asked : Float) (offer : Offer) {lo hi : Float} {v : Verdict}
    (p : lo ≡ min_of ramp) (q : hi ≡ max_of ramp) (e : v ≡ shape_verdict lo hi offer Yes) where
  at_ends : v ≡ shape_verdict (min_of ramp) (max_of ramp) offer Yes
  at_ends = rw (p, q) at e

  list_shaped : v ≡ Yes → Shaped (min_of ramp) (max_of ramp) offer
  list_shaped y = (shape_yes (min_of ramp) (max_of ramp) offer Yes (sym at_ends ∙ y)).0

  pub list_coloured : v ≡ Yes → {w : Verdict} → w ≡ points_verdict ramp asked offer → w ≡ list_verdict ramp asked offer
  unfolding list_verdict
  list_coloured y f = f ∙ sym (yes_shape (min_of ramp) (max_of ramp) offer (points_verdict ramp asked offer) (list_shaped y))

  pub list_misshapen : (v ≡ Yes → ⊥) → v ≡ list_verdict ramp asked offer
  unfolding list_verdict
  list_misshapen never = at_ends ∙ shape_no (min_of ramp) (max_of ramp) offer (points_verdict ramp asked offer) (λ y. never (at_ends ∙ sym y))

-- ---- the call
module _ (ramp : Ramp) (asked : Float) (offer : Offer) where
  pub judge_refused : (n : ℕ) → ramp_check ramp ≡ checked.Refused n → Judges ramp asked offer (Refused n)
  unfolding verdict_of
  judge_refused n e = record { answer = rw e; number = rw e }

  pub judge_done : {v : Verdict} → ramp_check ramp ≡ Fine → v ≡ list_verdict ramp asked offer → Judges ramp asked offer v
  unfolding verdict_of
  judge_done e f = record { answer = f ∙ rw e; number = ap number_of_verdict f ∙ list_number ramp asked offer ∙ rw e }
