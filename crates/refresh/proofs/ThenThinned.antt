-- A refreshed list is a refresh, and then a thinning of the changed ramp over what that left: by the check of the refresh. Assumes nothing.
use mathlib.Core.Path.{◌≡◌, sym, ◌∙◌}
use lib.ListN.{length}
use lib.Ieee.{Float}
use Rattle.stops.specs.Lent.{Ramp, Change, change}
use Rattle.stops.specs.declared.Checked.{Checked}
use Rattle.stops.specs.declared.Checked.TheVariants as checked
use Rattle.gradient.specs.Ramp.{colour_of}
use Rattle.sampling.specs.Lent.{Held}
use Rattle.sampling.specs.Sampling.{far_of}
use Rattle.thinning.specs.Kept.{kept_of, refusal_of, list_evaluations}
use Rattle.linearize.specs.Lent.{Output}
use Rattle.records.specs.Fitness.{thin_check}
use Rattle.records.proofs.Passing.{thin_passes}
use Rattle.linearize.specs.Desk.{points_in, room, thin_output}
use Rattle.linearize.specs.Promises.{Thins}
use Rattle.linearize.specs.declared.Listed.{Listed}
use Rattle.linearize.proofs.Checks.{ready, ready_counts}
use Rattle.linearize.proofs.Answers.{added}
use Rattle.refresh.specs.editing.Edited.{edited}
use Rattle.refresh.specs.RefreshDesk.{refresh_check, renewed, new_evaluations, refresh_answer, refresh_held, refresh_output, Refreshes, RefreshLists}
use Rattle.refresh.specs.AfterEdit.{RefreshedThenThinned}
use Rattle.refresh.specs.declared.editing.Edit.{Edit}
use Rattle.sampling.specs.declared.Sampled.{Sampled}
use Rattle.refresh.proofs.EditChecks.{thin_fine, own_words, allowed, same_marks}
use Rattle.refresh.proofs.RefreshAnswers.{edited_held, renewed_thins, words_stay}

-- the refreshed record may be thinned, with the changed ramp: it has the lengths and the words that it had
pub renewed_passes : (ramp : Ramp) (e : Edit) (asked : Float) (was : Held) → refresh_check ramp e asked was ≡ checked.Fine → thin_check (edited ramp e) asked (renewed ramp e asked was) ≡ checked.Fine
renewed_passes ramp e asked was h =
    let before = ready ramp asked was (thin_fine ramp e asked was h) in
    let after = renewed_thins ramp e asked was h in
    let words = words_stay ramp e asked was in
    thin_passes (edited ramp e) asked (renewed ramp e asked was)
    (rw (after.long ∙ sym before.long, after.many ∙ sym before.many, words) (edited_held ramp e asked was h))
    (ready_counts _ _ after)
    (words ∙ own_words ramp e asked was h ∙ sym (same_marks ramp e (allowed ramp e asked was h) asked))

module _ (ramp : Ramp) (e : Edit) (asked : Float) (held : Change Held) (all : Held) (thinned : Change Output) (out : Output) (q : Sampled) (l r : Listed)
    (first : Refreshes ramp e asked held q)
    (second : Thins (edited ramp e) asked held.exit thinned l)
    (both : RefreshLists ramp e asked (change held.entry all) (change thinned.entry out) r) where
  pub by_check : (c : Checked) → refresh_check ramp e asked held.entry ≡ c → RefreshedThenThinned held.exit all thinned out q l r
  unfolding refresh_answer refresh_held refresh_output thin_output
  by_check (checked.Refused n) h =
      record {
        answer = both.told.answer ∙ rw (first.answer, h);
        same_record = both.left ∙ rw (first.left, h);
        output = both.output ∙ rw (first.answer, h);
      }
  by_check checked.Fine h =
      let g = colour_of (edited ramp e) in
      let ts = points_in (edited ramp e) (renewed ramp e asked held.entry) in
      let new : held.exit ≡ renewed ramp e asked held.entry = first.left ∙ rw h in
      let fine = renewed_passes ramp e asked held.entry h in
      record {
        answer =
            both.told.answer
            ∙ rw (first.answer, second.told.answer, h, new, fine)
            (sym (added (new_evaluations ramp e asked) (refusal_of g (far_of asked) (room thinned.entry) ts) (length (kept_of g (far_of asked) ts)) (list_evaluations g (far_of asked) ts)));
        same_record = both.left ∙ rw (first.left, h);
        output = both.output ∙ rw (first.answer, second.output, h, new, fine);
      }
