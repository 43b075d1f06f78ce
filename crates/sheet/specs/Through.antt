-- A sheet through any number of edits, said of the calls: of any results that the contracts of `open`, `edit`, `flatten` and `flatten_within` allow. What is proved of it stands in proofs/Through.
use Rattle.std.specs.Prelude.{◌≡◌, List, [], ◌∷◌, ℕ, Float}
use Rattle.stops.specs.Lent.{Ramp, Change, change}
use Rattle.sampling.specs.Lent.{Held}
use Rattle.linearize.specs.Lent.{Output}
use Rattle.linearize.specs.Desk.{number_of_listed, stops_of_listed}
use Rattle.linearize.specs.declared.Listed.{Listed}
use Rattle.refresh.specs.editing.Edited.{edited}
use Rattle.refresh.specs.AfterEdit.{Shaped}
use Rattle.refresh.specs.declared.editing.Edit.{Edit}
use Rattle.sheet.specs.Room.{first_of}
use Rattle.sheet.specs.Lists.{FlattensBy}
use Rattle.sheet.specs.Answers.{number_of_sheet, listed_of_sheet, stops_now}
use Rattle.sheet.specs.Promises.{Opens, Edits}
use Rattle.sheet.specs.declared.ListSort.{ListSort}
use Rattle.sheet.specs.declared.SheetAnswer.{SheetAnswer}
use Rattle.sheet.specs.declared.SheetAnswer.TheVariants.{Done, Unlisted, Refused}

-- what a caller holds between two calls: the lent slices, how many stops of them are the ramp, how many stops the list has, and the number with which it was refused
pub record Sheet : Type 0 where
  pub room : Ramp
  pub stops : ℕ
  pub held : Held
  pub list : Output
  pub listed : ℕ
  pub refusal : ℕ

-- the list's own answer after a call: a refusal that leaves all as it was leaves this too
abbrev pub listed_now : ℕ → SheetAnswer → ℕ
listed_now was (Done s l e) = l
listed_now was (Unlisted s n) = 0
listed_now was (Refused n) = was

abbrev pub refusal_now : ℕ → SheetAnswer → ℕ
refusal_now was (Done s l e) = 0
refusal_now was (Unlisted s n) = n
refusal_now was (Refused n) = was

-- an edit that was asked for, what was answered, and the sheet after it
pub record Turn : Type 0 where
  pub edit : Edit
  pub answer : SheetAnswer
  pub after : Sheet

-- the sheet after any number of them
unfoldable pub last_of : Sheet → List Turn → Sheet
last_of s [] = s
last_of s (t ∷ ts) = last_of t.after ts

-- the edits that were made: a list that is refused takes none back
abbrev pub made_with : SheetAnswer → Edit → List Edit → List Edit
made_with (Done s l n) e es = e ∷ es
made_with (Unlisted s n) e es = e ∷ es
made_with (Refused n) e es = es

unfoldable pub made_of : List Turn → List Edit
made_of [] = []
made_of (t ∷ ts) = made_with t.answer t.edit (made_of ts)

-- the ramp that edits make of another, one after the other
unfoldable pub edited_all : Ramp → List Edit → Ramp
edited_all ramp [] = ramp
edited_all ramp (e ∷ es) = edited_all (edited ramp e) es

-- what a flattening left in a record and in the outputs, and answered, beside a sheet: all but the evaluations
pub record Afresh (s : Sheet) (other : Held) (out : Output) (q : Listed) : Type 0 where
  pub same_record : other ≡ s.held
  pub same_output : out ≡ s.list
  pub same_number : number_of_listed q ≡ s.refusal
  pub same_stops : stops_of_listed q ≡ s.listed

-- ---- one threshold and one sort of list
module _ (asked : Float) (sort : ListSort) where
  -- a sheet that was opened: the call was not refused, though its list may be
  pub record Opened (s : Sheet) : Type 0 where
    pub was : Held
    pub before : Output
    pub answer : SheetAnswer
    pub call : Opens s.room s.stops asked sort (change was s.held) (change before s.list) answer
    pub taken : (n : ℕ) → answer ≡ Refused n → ⊥
    pub listed_is : s.listed ≡ listed_of_sheet answer
    pub refusal_is : s.refusal ≡ number_of_sheet answer

  -- a call of `edit`, of which the caller keeps the numbers
  pub record Turned (s : Sheet) (t : Turn) : Type 0 where
    pub call :
        Edits (change s.room t.after.room) s.stops t.edit asked sort
        (change s.held t.after.held) (change s.list t.after.list) t.answer
    pub stops_are : t.after.stops ≡ stops_now s.stops t.answer
    pub listed_is : t.after.listed ≡ listed_now s.listed t.answer
    pub refusal_is : t.after.refusal ≡ refusal_now s.refusal t.answer

  -- any number of them, one after the other
  unfoldable pub Through : Sheet → List Turn → Type 0
  Through s [] = Unit {0}
  Through s (t ∷ ts) = Turned s t × Through t.after ts

  -- a sheet that is of one ramp: flattened afresh over any record of the right lengths, and over its own outputs, it is as it stands
  pub record OfOneRamp (ramp : Ramp) (s : Sheet) : Type 0 where
    pub ramp_is : first_of s.room s.stops ≡ ramp
    pub is_fresh : (held : Change Held) → Shaped held.entry → (out : Output) (q : Listed) → FlattensBy sort ramp asked held (change s.list out) q
        → Afresh s held.exit out q
