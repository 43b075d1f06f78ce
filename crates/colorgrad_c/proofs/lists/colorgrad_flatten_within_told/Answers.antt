-- `colorgrad_flatten_within_told` meets its contract: the call for the kind of the code, its answer told; a code that names none is refused. Assumes nothing.
use mathlib.Core.Path.{refl}
use Rattle.refusals.specs.Refusals.{misshapen}
use Rattle.linearize.specs.declared.Listed.TheVariants as listed
use Rattle.colorgrad_c.proofs.plain.Coding.{of_a_kind, of_no_kind, paired}
use Rattle.colorgrad_c.proofs.lists.colorgrad_flatten_within_told.Goals as goal

pub returns-in_default : goal.returns-in_default
returns-in_default c =
    of_no_kind (listed.Refused misshapen) c.kind_of.ensures c.in_default.is (refl, (refl, refl)) (paired c.tell_listed.ensures.value c.tell_listed.ensures.told_value)

pub returns : goal.returns
returns c =
    of_a_kind _ c.kind_of.ensures c.in-Some.is c.flatten_within-listed.ensures (paired c.tell_listed-2.ensures.value c.tell_listed-2.ensures.told_value)
