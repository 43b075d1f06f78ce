-- The theorem: whatever was lent to `open`, after any number of edits, refused ones among them, the ramp is the one that the edits that were not refused make of the first, and record, list and
-- answer are those of flattening it afresh; and rows clear of an edit keep every byte at that step. By induction over the edits, of any results that the contracts of the calls allow. Assumes nothing.
use mathlib.Core.Path.{◌≡◌, refl, sym, ◌∙◌, subst}
use mathlib.Core.Bool.{true}
use mathlib.Core.List.{List, [], ◌∷◌}
use Prim.Native.Nat.{ℕ, ◌<◌}
use lib.ListN.{length}
use lib.Ieee.{Float}
use Rattle.stops.specs.Lent.{Ramp, Change, change}
use Rattle.stops.specs.declared.Checked.{Checked}
use Rattle.stops.specs.declared.Checked.TheVariants as checked
use Rattle.gradient.specs.Ramp.{min_of, max_of}
use Rattle.sampling.specs.Constants.{cells}
use Rattle.sampling.specs.Lent.{Held}
use Rattle.sampling.specs.Sampling.{held_check, sample_held}
use Rattle.sampling.proofs.Checks.{record_lengths}
use Rattle.linearize.specs.Lent.{Output}
use Rattle.linearize.specs.Desk.{flatten_output}
use Rattle.linearize.specs.declared.Listed.{Listed}
use Rattle.within.specs.Lists.{flatten_within_output}
use Rattle.refresh.specs.reach.Stretch.{cell_clear}
use Rattle.refresh.specs.editing.Reached.{away}
use Rattle.refresh.specs.RefreshDesk.{refresh_check, renewed, new_evaluations, refresh_answer, refresh_evaluations, refresh_held}
use Rattle.refresh.specs.AfterEdit.{Shaped, SameCell}
use Rattle.refresh.specs.declared.editing.Edit.{Edit}
use Rattle.sampling.specs.declared.Sampled.TheVariants as refreshed
use Rattle.refresh.proofs.Calls.{clear_cells_stay}
use Rattle.sheet.specs.Room.{stops_fit, first_of}
use Rattle.sheet.specs.Lists.{FlattensBy}
use Rattle.sheet.specs.Promises.{sheet_check, made_edit}
use Rattle.sheet.specs.Through.{Sheet, Turn, last_of, made_with, made_of, edited_all, Opened, Turned, Through, Afresh, OfOneRamp}
use Rattle.sheet.specs.declared.ListSort.{ListSort}
use Rattle.sheet.specs.declared.ListSort.TheVariants.{Thinned, Within}
use Rattle.sheet.specs.declared.SheetAnswer.{SheetAnswer}
use Rattle.sheet.specs.declared.SheetAnswer.TheVariants.{Done, Unlisted, Refused}
use Rattle.sheet.proofs.Editing.{edit_fine}
use Rattle.sheet.proofs.Standing.{after_turn, whole_fine, fitted_is, Standing, opened_stands}
use Rattle.sheet.proofs.Turning.{turn_stands}

after_made : (ramp : Ramp) (r : SheetAnswer) (e : Edit) (es : List Edit) → edited_all (after_turn ramp r e) es ≡ edited_all ramp (made_with r e es)
unfolding edited_all
after_made ramp (Done s l n) e es = refl
after_made ramp (Unlisted s n) e es = refl
after_made ramp (Refused n) e es = refl

module _ (asked : Float) (sort : ListSort) where
  -- ---- by induction over the edits
  stands : (ts : List Turn) (ramp : Ramp) (s : Sheet) → Standing asked sort ramp s → Through asked sort s ts → Standing asked sort (edited_all ramp (made_of ts)) (last_of s ts)
  unfolding Through last_of made_of edited_all
  stands [] ramp s z w = z
  stands (t ∷ ts) ramp s z w =
      subst (λ (x : Ramp). Standing asked sort x (last_of t.after ts)) (after_made ramp t.answer t.edit (made_of ts))
      (stands ts (after_turn ramp t.answer t.edit) t.after (turn_stands asked sort s t w.0 ramp z) w.1)

  -- ---- a sheet that stands is as a flattening leaves it
  takes : (ramp : Ramp) (s : Sheet) → Standing asked sort ramp s → (was : Held) → Shaped was → held_check ramp was ≡ checked.Fine
  takes ramp s z was shaped =
      let l = record_lengths ramp _ _ _ z.fine in
      rw (shaped.long ∙ sym l.long, shaped.many ∙ sym l.many, shaped.three ∙ sym l.three) z.fine

  afresh : (sort' : ListSort) → sort ≡ sort' → (ramp : Ramp) (s : Sheet) → Standing asked sort ramp s → (held : Change Held) → Shaped held.entry → (out : Output) (q : Listed)
      → FlattensBy sort' ramp asked held (change s.list out) q → Afresh s held.exit out q
  unfolding sample_held flatten_output flatten_within_output
  afresh Thinned is ramp s z held shaped out q call =
      let fine = takes ramp s z held.entry shaped in
      let y : Standing asked Thinned ramp s = subst (λ (x : ListSort). Standing asked x ramp s) is z in
      record {
        same_record = call.left ∙ rw fine (sym y.held_is);
        same_output = call.output ∙ rw fine (sym y.list_is);
        same_number = call.told.number ∙ rw fine (sym y.refusal_is);
        same_stops = call.told.stops ∙ rw fine (sym y.listed_is);
      }
  afresh (Within hold) is ramp s z held shaped out q call =
      let fine = takes ramp s z held.entry shaped in
      let y : Standing asked (Within hold) ramp s = subst (λ (x : ListSort). Standing asked x ramp s) is z in
      record {
        same_record = call.left ∙ rw fine (sym y.held_is);
        same_output = call.output ∙ rw fine (sym y.list_is);
        same_number = call.told.number ∙ rw fine (sym y.refusal_is);
        same_stops = call.told.stops ∙ rw fine (sym y.listed_is);
      }

  -- ---- the theorem
  pub sheet_is_fresh : (s : Sheet) → Opened asked sort s → (ts : List Turn) → Through asked sort s ts → OfOneRamp asked sort (edited_all (first_of s.room s.stops) (made_of ts)) (last_of s ts)
  sheet_is_fresh s opened ts through =
      let ramp = edited_all (first_of s.room s.stops) (made_of ts) in
      let z = stands ts (first_of s.room s.stops) s (opened_stands asked sort s opened) through in
      record { ramp_is = z.ramp_is; is_fresh = afresh sort refl ramp (last_of s ts) z }

  -- ---- at each step: a cell that is clear of the edit keeps its row and its count, whatever stood there and whatever is answered
  module _ (s : Sheet) (t : Turn) (w : Turned asked sort s t) where
    abbrev first : Ramp
    first = first_of s.room s.stops

    made_cell : sheet_check s.room s.stops t.edit asked s.held ≡ checked.Fine → (i : ℕ) → i < cells → cell_clear (away first t.edit) (min_of first) (max_of first) i ≡ true → SameCell i t.after.held s.held
    unfolding sheet_check refresh_answer refresh_evaluations refresh_held
    made_cell h i cell clear =
        let both = whole_fine (stops_fit s.room.kind s.stops (length s.room.positions) (length s.room.channels)) (refresh_check first (made_edit s.room s.stops t.edit) asked s.held) h in
        let is = fitted_is s.room.kind first.positions s.stops (length s.room.positions) (length s.room.channels) t.edit (edit_fine s.room s.stops t.edit asked s.held both.0 both.1) in
        let fine : refresh_check first t.edit asked s.held ≡ checked.Fine = rw is at both.1 in
        let left : t.after.held ≡ renewed first t.edit asked s.held = w.call.left ∙ rw (h, is) in
        clear_cells_stay first t.edit asked i clear cell (change s.held t.after.held) (refreshed.Done (new_evaluations first t.edit asked))
        (record { answer = rw fine; number = rw fine; evaluations = rw fine; left = left ∙ rw fine })

    pub clear_rows_stay : (i : ℕ) → i < cells → cell_clear (away first t.edit) (min_of first) (max_of first) i ≡ true → SameCell i t.after.held s.held
    clear_rows_stay i cell clear = by (sheet_check s.room s.stops t.edit asked s.held) refl
      where
        refused : (k : ℕ) → sheet_check s.room s.stops t.edit asked s.held ≡ checked.Refused k → SameCell i t.after.held s.held
        refused k h = let same : t.after.held ≡ s.held = w.call.left ∙ rw h in rw same (record { same_row = refl; same_count = refl })

        by : (c : Checked) → sheet_check s.room s.stops t.edit asked s.held ≡ c → SameCell i t.after.held s.held
        by (checked.Refused k) h = refused k h
        by checked.Fine h = made_cell h i cell clear
