-- What the calls on a sheet answer, and what their caller keeps of it. Document 01's number and values for each case of the answer.
use Rattle.std.specs.Prelude.{ℕ}
use Rattle.linearize.specs.declared.Listed.{Listed}
use Rattle.linearize.specs.declared.Listed.TheVariants as listed
use Rattle.sheet.specs.declared.SheetAnswer.{SheetAnswer}
use Rattle.sheet.specs.declared.SheetAnswer.TheVariants.{Done, Unlisted, Refused}

-- a list's answer as the sheet's, of a ramp of so many stops
abbrev pub sheet_by : ℕ → Listed → SheetAnswer
sheet_by stops (listed.Done l e) = Done stops l e
sheet_by stops (listed.Refused n) = Unlisted stops n

-- the number of a refusal (0 for none), and the values beside it: the evaluations, how many stops the ramp has, and how many its list
abbrev pub number_of_sheet : SheetAnswer → ℕ
number_of_sheet (Done s l e) = 0
number_of_sheet (Unlisted s n) = n
number_of_sheet (Refused n) = n

abbrev pub evaluations_of_sheet : SheetAnswer → ℕ
evaluations_of_sheet (Done s l e) = e
evaluations_of_sheet (Unlisted s n) = 0
evaluations_of_sheet (Refused n) = 0

abbrev pub listed_of_sheet : SheetAnswer → ℕ
listed_of_sheet (Done s l e) = l
listed_of_sheet (Unlisted s n) = 0
listed_of_sheet (Refused n) = 0

-- a refusal leaves as many stops as there were
abbrev pub stops_now : ℕ → SheetAnswer → ℕ
stops_now was (Done s l e) = s
stops_now was (Unlisted s n) = s
stops_now was (Refused n) = was
