-- The calls on a sheet, for a kind given by its code.
use Rattle.std.specs.Prelude.{◌≡◌, ℕ, Float}
use Rattle.refusals.specs.Refusals.{misshapen}
use Rattle.stops.specs.Lent.{Ramp, Lent, LentMut, Change}
use Rattle.stops.specs.declared.Kind.{Kind}
use Rattle.refresh.specs.declared.editing.Edit.{Edit}
use Rattle.sheet.specs.Room.{lent_room}
use Rattle.sheet.specs.Answers.{number_of_sheet}
use Rattle.sheet.specs.Promises.{Opens, Edits}
use Rattle.sheet.specs.declared.ListSort.{ListSort}
use Rattle.sheet.specs.declared.SheetAnswer.{SheetAnswer}
use Rattle.sheet.specs.declared.SheetAnswer.TheVariants.{Refused}
use Rattle.colorgrad_c.specs.plain.Kinds.{CodedRamp, Tells}
use Rattle.colorgrad_c.specs.plain.Sheets.{sheet_told}
use Rattle.colorgrad_c.specs.Lists.{Lendings}

-- a ramp with room by the code of its kind: as it is lent and left, for any kind
pub record CodedRoom : Type 0 where
  pub code : ℕ
  pub room : Kind → Change Ramp

abbrev pub room_by : ℕ → LentMut Float → LentMut Float → Lent ℕ → CodedRoom
room_by code ps cs ks = record { code = code; room = λ kind. lent_room kind ps cs ks }

-- the promises of `open` and `edit`, of a ramp of any kind; a code that names no kind is 1 and changes nothing
module _ (n : ℕ) (asked : Float) (sort : ListSort) (l : Lendings) where
  abbrev pub CodedOpens : CodedRamp → ℕ → Type 0
  CodedOpens by r =
      Tells by.code (λ (kind : Kind). Opens (by.ramp kind) n asked sort l.held l.list)
      (λ (a : SheetAnswer). (a ≡ Refused misshapen) × ((l.held.exit ≡ l.held.entry) × (l.list.exit ≡ l.list.entry)))
      number_of_sheet (sheet_told n)
      (record { number = r; told = l.told })

  abbrev pub CodedEdits : CodedRoom → Edit → ℕ → Type 0
  CodedEdits by e r =
      Tells by.code (λ (kind : Kind). Edits (by.room kind) n e asked sort l.held l.list)
      (λ (a : SheetAnswer).
      (a ≡ Refused misshapen) × (((kind : Kind) → (by.room kind).exit ≡ (by.room kind).entry) × ((l.held.exit ≡ l.held.entry) × (l.list.exit ≡ l.list.entry))))
      number_of_sheet (sheet_told n)
      (record { number = r; told = l.told })
