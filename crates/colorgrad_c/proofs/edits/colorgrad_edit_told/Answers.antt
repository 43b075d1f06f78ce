-- `colorgrad_edit_told` meets its contract: the call for the kind of the code, its answer told; a code that names none is refused. Assumes nothing.
use mathlib.Core.Path.{refl}
use Rattle.refusals.specs.Refusals.{misshapen}
use Rattle.sampling.specs.declared.Sampled.TheVariants as sampled
use Rattle.colorgrad_c.proofs.plain.Coding.{of_a_kind, of_no_kind, paired}
use Rattle.colorgrad_c.proofs.Sorted.{refreshes_by}
use Rattle.colorgrad_c.proofs.edits.colorgrad_edit_told.Goals as goal

pub returns-in_default : goal.returns-in_default
returns-in_default c =
    of_no_kind (sampled.Refused misshapen) c.kind_of.ensures c.in_default.is (refl, refl) (paired c.tell_sampled.ensures.value c.tell_sampled.ensures.told_value)

pub returns : goal.returns
returns c =
    of_a_kind _ c.kind_of.ensures c.in-Some.is (refreshes_by c.edit_of-edit.ensures c.refresh-refreshed.ensures) (paired c.tell_sampled-2.ensures.value c.tell_sampled-2.ensures.told_value)
