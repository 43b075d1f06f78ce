-- The sorts of list of a sheet by their numbers, and what is told of a sheet's answer.
use Rattle.std.specs.Prelude.{ℕ, cond, List, [], ◌∷◌, eqb, Float}
use Rattle.sheet.specs.Answers.{evaluations_of_sheet, listed_of_sheet, stops_now}
use Rattle.sheet.specs.declared.ListSort.{ListSort}
use Rattle.sheet.specs.declared.ListSort.TheVariants.{Thinned, Within}
use Rattle.sheet.specs.declared.SheetAnswer.{SheetAnswer}

-- 0 is the list that thinning makes, any other number the one within the hold
unfoldable pub sort_of : ℕ → Float → ListSort
sort_of list hold = cond (eqb list 0) Thinned (Within hold)

-- how many stops the ramp has now, of n before the call; how many the list has; the evaluations
abbrev pub sheet_told : ℕ → SheetAnswer → List ℕ
sheet_told n r = stops_now n r ∷ listed_of_sheet r ∷ evaluations_of_sheet r ∷ []
