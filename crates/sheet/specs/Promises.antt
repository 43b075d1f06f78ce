-- When a sheet says no, and what its calls answer and leave in lent memory.
use Rattle.std.specs.Prelude.{◌≡◌, cond, List, ℕ, length, Float}
use Rattle.refusals.specs.Refusals.{misshapen}
use Rattle.stops.specs.Lent.{Ramp, Change}
use Rattle.stops.specs.Answers.{on_fine}
use Rattle.stops.specs.declared.Checked.{Checked}
use Rattle.stops.specs.declared.Checked.TheVariants as checked
use Rattle.sampling.specs.Lent.{Held}
use Rattle.sampling.specs.Sampling.{held_check, fresh, fresh_evaluations}
use Rattle.linearize.specs.Lent.{Output}
use Rattle.linearize.specs.Desk.{points_in}
use Rattle.refresh.specs.editing.Edited.{edited, stops_after}
use Rattle.refresh.specs.RefreshDesk.{refresh_check, renewed, new_evaluations}
use Rattle.refresh.specs.declared.editing.Edit.{Edit}
use Rattle.sheet.specs.Room.{stops_fit, fitted, first_of, rewritten}
use Rattle.sheet.specs.Lists.{written_by, listed_by}
use Rattle.sheet.specs.Answers.{sheet_by}
use Rattle.sheet.specs.declared.ListSort.{ListSort}
use Rattle.sheet.specs.declared.SheetAnswer.{SheetAnswer}
use Rattle.sheet.specs.declared.SheetAnswer.TheVariants.{Refused}

-- ---- a ramp with room, of which n stops count
module _ (room : Ramp) (n : ℕ) where
  abbrev pub whole : Checked → Checked
  whole check = cond (stops_fit room.kind n (length room.positions) (length room.channels)) check (checked.Refused misshapen)

  -- ---- opening: a fresh sampling, and the list of its points
  unfoldable pub open_check : Held → Checked
  open_check was = whole (held_check (first_of room n) was)

  module _ (asked : Float) (sort : ListSort) where
    abbrev pub open_points : List Float
    open_points = points_in (first_of room n) (fresh (first_of room n) asked)

    -- `open`: the answer, the record and both outputs
    pub record Opens (held : Change Held) (out : Change Output) (r : SheetAnswer) : Type 0 where
      pub answer :
          r ≡ on_fine (open_check held.entry) (sheet_by n (listed_by sort (first_of room n) asked open_points out.entry (fresh_evaluations (first_of room n) asked))) Refused
      pub left : held.exit ≡ on_fine (open_check held.entry) (fresh (first_of room n) asked) (λ k. held.entry)
      pub output : out.exit ≡ on_fine (open_check held.entry) (written_by sort (first_of room n) asked open_points out.entry) (λ k. out.entry)

  -- ---- an edit: made in the ramp, whose record is refreshed and whose list is made anew
  module _ (e : Edit) where
    -- the edit, and the ramp with it made
    abbrev pub made_edit : Edit
    made_edit = fitted n (length room.positions) (length room.channels) e

    abbrev pub made_ramp : Ramp
    made_ramp = edited (first_of room n) made_edit

    unfoldable pub sheet_check : Float → Held → Checked
    sheet_check asked was = whole (refresh_check (first_of room n) made_edit asked was)

    module _ (asked : Float) (sort : ListSort) (was : Held) where
      abbrev pub made_held : Held
      made_held = renewed (first_of room n) made_edit asked was

      abbrev pub made_points : List Float
      made_points = points_in made_ramp made_held

      unfoldable pub edit_answer : Output → SheetAnswer
      edit_answer out =
          on_fine (sheet_check asked was)
          (sheet_by (stops_after n made_edit) (listed_by sort made_ramp asked made_points out (new_evaluations (first_of room n) made_edit asked))) Refused

-- `edit`: the answer, the ramp, the record and both outputs
pub record Edits (room : Change Ramp) (n : ℕ) (e : Edit) (asked : Float) (sort : ListSort) (held : Change Held) (out : Change Output) (r : SheetAnswer) : Type 0 where
  pub answer : r ≡ edit_answer room.entry n e asked sort held.entry out.entry
  pub ramp : room.exit ≡ on_fine (sheet_check room.entry n e asked held.entry) (rewritten room.entry (made_ramp room.entry n e)) (λ k. room.entry)
  pub left : held.exit ≡ on_fine (sheet_check room.entry n e asked held.entry) (made_held room.entry n e asked sort held.entry) (λ k. held.entry)
  pub output :
      out.exit ≡ on_fine (sheet_check room.entry n e asked held.entry)
      (written_by sort (made_ramp room.entry n e) asked (made_points room.entry n e asked sort held.entry) out.entry) (λ k. out.entry)
