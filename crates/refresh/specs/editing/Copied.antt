-- The copy with an edit made: what it answers and leaves in lent memory.
use Rattle.std.specs.Prelude.{◌≡◌, Bool, cond, ◌&&◌, List, ℕ, ◌+◌, ◌*◌, leb, ltb, eqb, length, Float}
use Rattle.std.proofs.lemmas.List.Edits.{sets}
use Rattle.refusals.specs.Refusals.{misshapen}
use Rattle.refusals.specs.Limits.{most_stops}
use Rattle.stops.specs.Answers.{on_fine}
use Rattle.stops.specs.declared.Kind.{Kind}
use Rattle.stops.specs.declared.Checked.{Checked}
use Rattle.stops.specs.declared.Checked.TheVariants as checked
use Rattle.refresh.specs.editing.Edited.{positions_after, channels_after, stops_after}
use Rattle.refresh.specs.editing.Rules.{edit_allowed}
use Rattle.refresh.specs.declared.editing.Edit.{Edit}
use Rattle.refresh.specs.declared.editing.copy.Copied.{Copied}
use Rattle.refresh.specs.declared.editing.copy.Copied.TheVariants as copied

-- the number of a refusal (0 for none), and the value beside it
abbrev pub number_of_copied : Copied → ℕ
number_of_copied (copied.Stops n) = 0
number_of_copied (copied.Refused n) = n

abbrev pub stops_of_copied : Copied → ℕ
stops_of_copied (copied.Stops n) = n
stops_of_copied (copied.Refused n) = 0

-- as many stops as a ramp may have, four channels each, and room for one stop more
unfoldable pub copy_fits : ℕ → ℕ → ℕ → ℕ → Bool
copy_fits n m places colours = leb n most_stops && (eqb m (4 * n) && (ltb n places && leb (m + 4) colours))

module _ (kind : Kind) (ps cs : List Float) (e : Edit) (places colours : List Float) where
  -- the refusals of the edit; then lengths that do not fit are 1
  unfoldable pub copy_check : Checked
  copy_check = on_fine (edit_allowed kind ps e) (cond (copy_fits (length ps) (length cs) (length places) (length colours)) checked.Fine (checked.Refused misshapen)) checked.Refused

  unfoldable pub copy_answer : Copied
  copy_answer = on_fine copy_check (copied.Stops (stops_after (length ps) e)) copied.Refused

  -- `copy`: the number of stops, and both lists written from the start; a refusal writes nothing
  pub record Copies (places' colours' : List Float) (r : Copied) : Type 0 where
    pub answer : r ≡ copy_answer
    pub number : number_of_copied r ≡ number_of_copied copy_answer
    pub stops : stops_of_copied r ≡ stops_of_copied copy_answer
    pub written : places' ≡ on_fine copy_check (sets places 0 (positions_after ps e)) (λ n. places)
    pub coloured : colours' ≡ on_fine copy_check (sets colours 0 (channels_after cs e)) (λ n. colours)
