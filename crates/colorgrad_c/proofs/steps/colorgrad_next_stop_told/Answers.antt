-- `colorgrad_next_stop_told` meets its contract: the step for the kind of the code, from the place that the numbers name, told; a code that names none is refused. Assumes nothing.
use mathlib.Core.Path.{ap}
use Rattle.refusals.specs.Refusals.{misshapen}
use Rattle.next_stop.specs.Step.{refused_at}
use Rattle.next_stop.specs.declared.ListPlace.{ListPlace}
use Rattle.colorgrad_c.proofs.plain.Coding.{of_a_kind, of_no_kind, paired_both}
use Rattle.colorgrad_c.proofs.Stepping.{from_place}
use Rattle.colorgrad_c.proofs.steps.colorgrad_next_stop_told.Goals as goal

pub returns-in_default : goal.returns-in_default
returns-in_default c =
    of_no_kind (refused_at c.place_from-place.result misshapen) c.kind_of.ensures c.in_default.is (ap (λ (p : ListPlace). refused_at p misshapen) c.place_from-place.ensures) (paired_both c.tell_handed.ensures.value c.tell_handed.ensures.told_value c.tell_handed.ensures.stop_value)

pub returns : goal.returns
returns c =
    of_a_kind _ c.kind_of.ensures c.in-Some.is (from_place c.place_from-place.ensures c.next_stop-handed.ensures) (paired_both c.tell_handed-2.ensures.value c.tell_handed-2.ensures.told_value c.tell_handed-2.ensures.stop_value)
