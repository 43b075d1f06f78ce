-- Steps that are refused: the check's refusal is told again and again and the place stays, a record that is not valid is 5 or 20, and no step is refused with 7.
-- Each theorem is of any results that the contract of `next_stop` allows. Assumes nothing.
use mathlib.Core.Path.{◌≡◌, refl, sym, ap, ap₂, ◌∙◌, subst}
use mathlib.Core.Bool.{Bool, true, false, cond, ◌&&◌, true≢false}
use mathlib.Core.List.{List, [], ◌∷◌}
use Prim.Native.Nat.{ℕ}
use native.Mathlib.Omega.{arith}
use lib.Dec.{eqb}
use lib.ListN.{length}
use lib.Ieee.{Float, lt}
use lib.Ieee.Scale.{finite}
use Rattle.refusals.specs.Refusals.{bad_record, other_threshold}
use Rattle.stops.specs.Lent.{Ramp}
use Rattle.stops.specs.Answers.{on_fine}
use Rattle.stops.specs.Stops.{finite_rgba}
use Rattle.stops.specs.declared.Checked.{Checked}
use Rattle.stops.specs.declared.Checked.TheVariants as checked
use Rattle.blend.specs.declared.Rgba.{Rgba}
use Rattle.gradient.specs.Ramp.{max_of, colour_of}
use Rattle.sampling.specs.Constants.{cells, record_length, marks_length}
use Rattle.sampling.specs.Lent.{Held}
use Rattle.sampling.specs.Sampling.{and_then, far_of, shape_check, sample_check, marks_of}
use Rattle.records.specs.Fitness.{counts_good, counts_check, same_words, marks_check, thin_check}
use Rattle.thinning.specs.Kept.{stop_refusal}
use Rattle.next_stop.specs.Step.{number_of_told, is_within, placed_check, refused_at, handed_from, fault_from, step_check, handed_of, handed_number, HandsOut}
use Rattle.next_stop.specs.Single.{Passes, record_fits, Early}
use Rattle.next_stop.specs.Chain.{Chained, spent_by, Stays}
use Rattle.next_stop.specs.declared.ListPlace.{ListPlace}
use Rattle.next_stop.specs.declared.ListPlace.TheVariants as place
use Rattle.next_stop.specs.declared.Handed.{Handed}
use Rattle.next_stop.proofs.Numbers.{step_early, none_late}

-- from the start the check is that of `thin`
pub start_check : (ramp : Ramp) (asked : Float) (was : Held) → step_check ramp asked was place.Start ≡ thin_check ramp asked was
unfolding is_within placed_check
start_check ramp asked was = refl

module _ (ramp : Ramp) (asked : Float) (was : Held) (p : ListPlace) where
  -- where the check refuses, the step tells that refusal and leaves the place
  step_refused : (k : ℕ) → step_check ramp asked was p ≡ checked.Refused k → (h : Handed) → HandsOut ramp asked was p h → h ≡ refused_at p k
  unfolding handed_of
  step_refused k e h w = w.handed ∙ ap (λ (c : Checked). on_fine c (handed_from (colour_of ramp) (far_of asked) was.rows was.counts (max_of ramp) p) (refused_at p)) e

  -- and so does every step after it
  pub refused_stays : (k : ℕ) → step_check ramp asked was p ≡ checked.Refused k → (hs : List Handed) → Chained ramp asked was p hs → Stays k p hs
  unfolding Chained spent_by
  refused_stays k e [] c = record { told = refl; places = refl; spent = refl }
  refused_stays k e (h ∷ hs) c =
      let f = step_refused k e h c.0 in
      let s = refused_stays k e hs (subst (λ (x : Handed). Chained ramp asked was x.place hs) f c.1) in
      record {
        told = ap₂ ◌∷◌ (ap (λ (x : Handed). x.told) f) s.told;
        places = ap₂ ◌∷◌ (ap (λ (x : Handed). x.place) f) s.places;
        spent = omega (arith, ap (λ (x : Handed). x.evaluations) f, s.spent);
      }

  -- ---- a record that is not valid
  abbrev sized : Bool
  sized = eqb (length was.rows) record_length && (eqb (length was.counts) cells && eqb (length was.marks) marks_length)

  -- the check of a ramp that passes, by what is asked of the record
  by_parts : Passes ramp → step_check ramp asked was p
      ≡ placed_check (is_within was.counts p) (and_then (cond sized checked.Fine (checked.Refused bad_record))
      (and_then (cond (counts_good was.counts) checked.Fine (checked.Refused bad_record)) (cond (same_words was.marks (marks_of ramp asked)) checked.Fine (checked.Refused other_threshold))))
  unfolding thin_check sample_check shape_check counts_check marks_check
  by_parts ok = rw (ok.fine, ok.near)

  module _ (ok : Passes ramp) (h : Handed) (w : HandsOut ramp asked was p h) where
    -- lengths, a count or the place that are not right: 5, and the place stays
    pub invalid_five : record_fits was p ≡ false → h ≡ refused_at p bad_record
    invalid_five z = step_refused bad_record (by_parts ok ∙ five sized (counts_good was.counts) (is_within was.counts p) (same_words was.marks (marks_of ramp asked)) z) h w
      where
        placed : (b : Bool) → placed_check b (checked.Refused bad_record) ≡ checked.Refused bad_record
        placed true = unfold placed_check in refl
        placed false = unfold placed_check in refl

        outside : (m : Bool) → placed_check false (cond m checked.Fine (checked.Refused other_threshold)) ≡ checked.Refused bad_record
        outside true = unfold placed_check in refl
        outside false = unfold placed_check in refl

        five : (l c b m : Bool) → l && (c && b) ≡ false
            → placed_check b (and_then (cond l checked.Fine (checked.Refused bad_record)) (and_then (cond c checked.Fine (checked.Refused bad_record)) (cond m checked.Fine (checked.Refused other_threshold)))) ≡ checked.Refused bad_record
        five false c b m z = placed b
        five true false b m z = placed b
        five true true false m z = outside m
        five true true true m z = absurd (true≢false z)

    -- else other words: 20, and the place stays
    pub invalid_twenty : record_fits was p ≡ true → same_words was.marks (marks_of ramp asked) ≡ false → h ≡ refused_at p other_threshold
    invalid_twenty z m = step_refused other_threshold (by_parts ok ∙ twenty sized (counts_good was.counts) (is_within was.counts p) (same_words was.marks (marks_of ramp asked)) z m) h w
      where
        twenty : (l c b m : Bool) → l && (c && b) ≡ true → m ≡ false
            → placed_check b (and_then (cond l checked.Fine (checked.Refused bad_record)) (and_then (cond c checked.Fine (checked.Refused bad_record)) (cond m checked.Fine (checked.Refused other_threshold)))) ≡ checked.Refused other_threshold
        twenty false c b m z e = absurd (true≢false (sym z))
        twenty true false b m z e = absurd (true≢false (sym z))
        twenty true true false m z e = absurd (true≢false (sym z))
        twenty true true true m z e = unfold placed_check in rw e

  -- ---- there is no 7
  one_not_seven : (last t : Float) (c : Rgba) → stop_refusal 1 0 last t c ≡ 7 → ⊥
  unfolding stop_refusal
  one_not_seven last t c z = by (finite t && finite_rgba c) (lt t last) z
    where
      by : (b d : Bool) → ◌≡◌ {A = ℕ} (cond b (cond d 9 0) 8) 7 → ⊥
      by true true y = omega arith
      by true false y = omega arith
      by false d y = omega arith

  fault_not_seven : (q : ListPlace) → fault_from (colour_of ramp) (far_of asked) was.rows was.counts (max_of ramp) q ≡ 7 → ⊥
  fault_not_seven place.Start z = one_not_seven _ _ _ z
  fault_not_seven (place.After row index) z = one_not_seven _ _ _ z
  fault_not_seven place.Ended z = omega arith

  pub never_seven : (h : Handed) → HandsOut ramp asked was p h → number_of_told h.told ≡ 7 → ⊥
  unfolding handed_number
  never_seven h w z = by (step_check ramp asked was p) (step_early ramp asked was p) (sym w.number ∙ z)
    where
      by : (c : Checked) → Early c → on_fine c (fault_from (colour_of ramp) (far_of asked) was.rows was.counts (max_of ramp) p) (λ (n : ℕ). n) ≡ 7 → ⊥
      by checked.Fine e y = fault_not_seven p y
      by (checked.Refused n) e y = none_late n e (omega (arith, y)) (omega (arith, y))
