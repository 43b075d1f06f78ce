-- A turn of a sheet that stands: refused, all is as it was; else it stands for the ramp with the edit made. Assumes nothing.
use mathlib.Core.Path.{◌≡◌, refl, sym, ap, ◌∙◌, subst}
use mathlib.Core.Bool.{true}
use Prim.Native.Nat.{ℕ, ◌+◌}
use lib.ListN.{length}
use lib.Ieee.{Float}
use Rattle.stops.specs.Lent.{Ramp}
use Rattle.stops.specs.declared.Checked.{Checked}
use Rattle.stops.specs.declared.Checked.TheVariants as checked
use Rattle.sampling.specs.Sampling.{fresh}
use Rattle.linearize.specs.Desk.{listed_of, points_in, room}
use Rattle.linearize.proofs.Records.{fresh_held}
use Rattle.refresh.specs.editing.Edited.{stops_after, edited}
use Rattle.refresh.specs.RefreshDesk.{refresh_check, renewed, new_evaluations}
use Rattle.refresh.proofs.RefreshAnswers.{edited_held}
use Rattle.refresh.proofs.Theorem.{fresh-renewed}
use Rattle.sheet.specs.Room.{stops_fit, first_of, rewritten}
use Rattle.sheet.specs.Lists.{refusal_by, stops_by, evaluations_by, written_by}
use Rattle.sheet.specs.Answers.{sheet_by}
use Rattle.sheet.specs.Promises.{sheet_check, edit_answer, made_edit, made_ramp}
use Rattle.sheet.specs.Through.{Sheet, Turn, Turned}
use Rattle.sheet.specs.declared.ListSort.{ListSort}
use Rattle.sheet.specs.declared.SheetAnswer.TheVariants.{Refused}
use Rattle.sheet.proofs.Editing.{edit_ok, edit_fine, first_written}
use Rattle.sheet.proofs.Rewriting.{room_stays, list_stays}
use Rattle.sheet.proofs.Standing.{number_is, kept_is, stops_kept, refusal_kept, listed_kept, after_turn, made_after, whole_fine, fitted_is, Standing}

module _ (asked : Float) (sort : ListSort) (s : Sheet) (t : Turn) (w : Turned asked sort s t) where
  abbrev first : Ramp
  first = first_of s.room s.stops

  -- ---- refused
  refused_turn : (k : ℕ) → sheet_check s.room s.stops t.edit asked s.held ≡ checked.Refused k → Standing asked sort first s → Standing asked sort (after_turn first t.answer t.edit) t.after
  unfolding edit_answer
  refused_turn k h z =
      let answered : t.answer ≡ Refused k = w.call.answer ∙ rw h in
      let ramp : t.after.room ≡ s.room = w.call.ramp ∙ rw h in
      let held : t.after.held ≡ s.held = w.call.left ∙ rw h in
      let list : t.after.list ≡ s.list = w.call.output ∙ rw h in
      let stops : t.after.stops ≡ s.stops = w.stops_are ∙ rw answered in
      let refusal : t.after.refusal ≡ s.refusal = w.refusal_is ∙ rw answered in
      let listed : t.after.listed ≡ s.listed = w.listed_is ∙ rw answered in
      rw answered
      (record {
        ramp_is = rw (ramp, stops);
        fine = rw held z.fine;
        held_is = held ∙ z.held_is;
        list_is = rw list z.list_is;
        refusal_is = refusal ∙ z.refusal_is ∙ rw list;
        listed_is = listed ∙ z.listed_is ∙ rw list;
      })

  -- ---- made
  module _ (h : sheet_check s.room s.stops t.edit asked s.held ≡ checked.Fine) (z : Standing asked sort first s) where
    passed : (stops_fit s.room.kind s.stops (length s.room.positions) (length s.room.channels) ≡ true) × (refresh_check first (made_edit s.room s.stops t.edit) asked s.held ≡ checked.Fine)
    unfolding sheet_check
    passed = whole_fine (stops_fit s.room.kind s.stops (length s.room.positions) (length s.room.channels)) (refresh_check first (made_edit s.room s.stops t.edit) asked s.held) h

    pub edit_is : made_edit s.room s.stops t.edit ≡ t.edit
    edit_is =
        fitted_is s.room.kind first.positions s.stops (length s.room.positions) (length s.room.channels) t.edit
        (edit_fine s.room s.stops t.edit asked s.held passed.0 passed.1)

    abbrev ramp' : Ramp
    ramp' = made_ramp s.room s.stops t.edit

    is_fresh : renewed first (made_edit s.room s.stops t.edit) asked s.held ≡ fresh ramp' asked
    is_fresh =
        ap (renewed first (made_edit s.room s.stops t.edit) asked) z.held_is
        ∙ fresh-renewed first (made_edit s.room s.stops t.edit) (edit_ok s.room s.stops t.edit asked s.held passed.0 passed.1) asked

    held_now : t.after.held ≡ fresh ramp' asked
    held_now = w.call.left ∙ rw h is_fresh

    list_now : t.after.list ≡ written_by sort ramp' asked (points_in ramp' (fresh ramp' asked)) s.list
    list_now = w.call.output ∙ rw (h, is_fresh)

    same_room : room t.after.list ≡ room s.list
    same_room = ap room list_now ∙ room_stays ramp' asked (points_in ramp' (fresh ramp' asked)) s.list sort

    abbrev refusal : ℕ
    refusal = refusal_by sort ramp' asked (room s.list) (points_in ramp' (fresh ramp' asked))

    abbrev kept : ℕ
    kept = stops_by sort ramp' asked (points_in ramp' (fresh ramp' asked))

    abbrev spent : ℕ
    spent = new_evaluations first (made_edit s.room s.stops t.edit) asked + evaluations_by sort ramp' asked (points_in ramp' (fresh ramp' asked))

    abbrev stops' : ℕ
    stops' = stops_after s.stops (made_edit s.room s.stops t.edit)

    answered : t.answer ≡ sheet_by stops' (listed_of refusal kept spent)
    unfolding edit_answer
    answered = w.call.answer ∙ rw (h, is_fresh)

    made_turn : Standing asked sort ramp' t.after
    made_turn =
        let stops : t.after.stops ≡ stops' = w.stops_are ∙ rw answered (stops_kept stops' s.stops (listed_of refusal kept spent)) in
        let ramp : t.after.room ≡ rewritten s.room ramp' = w.call.ramp ∙ rw h in
        let was = edited_held first (made_edit s.room s.stops t.edit) asked s.held passed.1 in
        let ts = points_in ramp' (fresh ramp' asked) in
        record {
          ramp_is = rw (ramp, stops) (first_written s.room s.stops t.edit asked s.held passed.0 passed.1);
          fine = rw held_now (fresh_held ramp' asked s.held was);
          held_is = held_now;
          list_is = rw list_now (sym (list_stays ramp' asked ts s.list sort));
          refusal_is = w.refusal_is ∙ rw answered (refusal_kept stops' s.refusal (listed_of refusal kept spent)) ∙ number_is stops' refusal kept spent ∙ rw same_room;
          listed_is = w.listed_is ∙ rw answered (listed_kept stops' s.listed (listed_of refusal kept spent)) ∙ kept_is stops' refusal kept spent ∙ rw same_room;
        }

    after_is : after_turn first t.answer t.edit ≡ ramp'
    after_is = rw answered (made_after first stops' (listed_of refusal kept spent) t.edit) ∙ ap (edited first) (sym edit_is)

  turn_by : (c : Checked) → sheet_check s.room s.stops t.edit asked s.held ≡ c → Standing asked sort first s → Standing asked sort (after_turn first t.answer t.edit) t.after
  turn_by (checked.Refused k) h z = refused_turn k h z
  turn_by checked.Fine h z = rw (after_is h z) (made_turn h z)

  pub turn_stands : (ramp : Ramp) → Standing asked sort ramp s → Standing asked sort (after_turn ramp t.answer t.edit) t.after
  turn_stands ramp z =
      subst (λ (x : Ramp). Standing asked sort x s → Standing asked sort (after_turn x t.answer t.edit) t.after) z.ramp_is
      (turn_by (sheet_check s.room s.stops t.edit asked s.held) refl) z
