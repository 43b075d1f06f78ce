-- When the desk says no to a refresh, and what its calls answer and leave in lent memory. Document 01's number and values for each case of the answer.
use Rattle.std.specs.Prelude.{◌≡◌, ℕ, ◌+◌, Float}
use Rattle.stops.specs.Lent.{Ramp, Change}
use Rattle.stops.specs.Answers.{number_of_checked, on_fine}
use Rattle.stops.specs.declared.Checked.{Checked}
use Rattle.gradient.specs.Ramp.{min_of, max_of, colour_of}
use Rattle.thinning.specs.Kept.{list_evaluations}
use Rattle.sampling.specs.Lent.{Held, held_of}
use Rattle.linearize.specs.Lent.{Output}
use Rattle.sampling.specs.Sampling.{and_then, far_of, number_of_sampled, evaluations_of_sampled}
use Rattle.sampling.specs.declared.Sampled.{Sampled}
use Rattle.sampling.specs.declared.Sampled.TheVariants as sampled
use Rattle.records.specs.Fitness.{thin_check}
use Rattle.linearize.specs.Desk.{points_in, written}
use Rattle.linearize.specs.Promises.{TellsOf}
use Rattle.linearize.specs.declared.Listed.{Listed}
use Rattle.sampling.specs.Anew.{anew_rows, anew_counts, anew_evaluations}
use Rattle.refresh.specs.editing.Edited.{edited}
use Rattle.refresh.specs.editing.Rules.{edit_check}
use Rattle.refresh.specs.editing.Reached.{clear_cell}
use Rattle.refresh.specs.declared.editing.Edit.{Edit}

module _ (ramp : Ramp) (e : Edit) where
  -- refusals 1, then stop by stop 2, 3; then 4, 5, 20; then those of the edit, 6, 1, 3
  unfoldable pub refresh_check : Float → Held → Checked
  refresh_check asked was = and_then (thin_check ramp asked was) (edit_check ramp e)

  module _ (asked : Float) where
    -- the record once the edit is made, whose words stay; and the evaluations
    unfoldable pub renewed : Held → Held
    renewed was =
        held_of (anew_rows (colour_of (edited ramp e)) (far_of asked) (clear_cell ramp e) (min_of ramp) (max_of ramp) was.rows)
        (anew_counts (colour_of (edited ramp e)) (far_of asked) (clear_cell ramp e) (min_of ramp) (max_of ramp) was.counts)
        was.marks

    unfoldable pub new_evaluations : ℕ
    new_evaluations = anew_evaluations (colour_of (edited ramp e)) (far_of asked) (clear_cell ramp e) (min_of ramp) (max_of ramp)

    -- ---- the calls
    module _ (was : Held) where
      unfoldable pub refresh_answer : Sampled
      refresh_answer = on_fine (refresh_check asked was) (sampled.Done new_evaluations) sampled.Refused

      unfoldable pub refresh_evaluations : ℕ
      refresh_evaluations = on_fine (refresh_check asked was) new_evaluations (λ n. 0)

      unfoldable pub refresh_held : Held
      refresh_held = on_fine (refresh_check asked was) (renewed was) (λ n. was)

      -- the list of the refreshed record's points, from the changed ramp
      unfoldable pub refresh_output : Output → Output
      refresh_output out = on_fine (refresh_check asked was) (written (edited ramp e) asked (points_in (edited ramp e) (renewed was)) out) (λ n. out)

    -- `refresh`: the answer, its number and value, and the record
    pub record Refreshes (held : Change Held) (r : Sampled) : Type 0 where
      pub answer : r ≡ refresh_answer held.entry
      pub number : number_of_sampled r ≡ number_of_checked (refresh_check asked held.entry)
      pub evaluations : evaluations_of_sampled r ≡ refresh_evaluations held.entry
      pub left : held.exit ≡ refresh_held held.entry

    -- `refresh_list`: the answer, the record and both outputs; thinning takes the changed ramp
    pub record RefreshLists (held : Change Held) (out : Change Output) (r : Listed) : Type 0 where
      pub told :
          TellsOf (edited ramp e) asked (refresh_check asked held.entry) out.entry
          (points_in (edited ramp e) (renewed held.entry))
          (new_evaluations + list_evaluations (colour_of (edited ramp e)) (far_of asked) (points_in (edited ramp e) (renewed held.entry)))
          r
      pub left : held.exit ≡ refresh_held held.entry
      pub output : out.exit ≡ refresh_output held.entry out.entry
