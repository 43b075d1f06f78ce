-- An edit made in place, what must stand, and what is left; and the list of a record as a sheet's answer.
use Rattle.std.specs.Prelude.{◌≡◌, List, ℕ, ◌+◌, ◌*◌, ◌≤◌, length, take, Float}
use Rattle.std.proofs.lemmas.List.Edits.{sets}
use Rattle.refusals.specs.Limits.{most_stops}
use Rattle.stops.specs.Lent.{Ramp, Change, Lent}
use Rattle.sampling.specs.Lent.{Held, held_of}
use Rattle.linearize.specs.Lent.{Output}
use Rattle.linearize.specs.Desk.{after_spending}
use Rattle.linearize.specs.declared.Listed.{Listed}
use Rattle.refresh.specs.editing.Edited.{stop_of, gone_of, positions_after, channels_after, stops_after}
use Rattle.refresh.specs.declared.editing.Edit.{Edit}
use Rattle.sheet.specs.Lists.{ThinsBy}
use Rattle.sheet.specs.Answers.{sheet_by}
use Rattle.sheet.specs.declared.ListSort.{ListSort}
use Rattle.sheet.specs.declared.SheetAnswer.{SheetAnswer}

-- the stop that is named is there, and the ramp has room before and after
pub record MayMake (ps cs : List Float) (n : ℕ) (e : Edit) : Type 0 where
  pub most : n ≤ most_stops
  pub there : stop_of e + gone_of e ≤ n
  pub positions_fit_before : n ≤ length ps
  pub channels_fit_before : 4 * n ≤ length cs
  pub positions_fit_after : stops_after n e ≤ length ps
  pub channels_fit_after : 4 * stops_after n e ≤ length cs

pub record Makes (ps cs : List Float) (n : ℕ) (e : Edit) (ps' cs' : List Float) (r : ℕ) : Type 0 where
  pub positions : ps' ≡ sets ps 0 (positions_after (take n ps) e)
  pub channels : cs' ≡ sets cs 0 (channels_after (take (4 * n) cs) e)
  pub stops : r ≡ stops_after n e

-- in an `ensures`, a record that is only read
abbrev pub read_held : Lent Float → Lent ℕ → Lent ℕ → Held
read_held rows counts marks = held_of rows.entry.now counts.entry.now marks.entry.now

-- the answer of a list that was made after so many evaluations
pub record ListsBy (sort : ListSort) (ramp : Ramp) (asked : Float) (was : Held) (out : Change Output) (stops spent : ℕ) (r : SheetAnswer) : Type 0 where
  pub made : Listed
  pub call : ThinsBy sort ramp asked was out made
  pub answer : r ≡ sheet_by stops (after_spending spent made)
