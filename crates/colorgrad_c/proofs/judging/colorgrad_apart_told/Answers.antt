-- `colorgrad_apart_told` meets its contract: the call for the kind of the code, its answer told; a code that names none is refused. Assumes nothing.
use mathlib.Core.Path.{refl}
use Rattle.refusals.specs.Refusals.{misshapen}
use Rattle.apart.specs.declared.told.Apart.TheVariants as apart
use Rattle.colorgrad_c.proofs.plain.Coding.{of_a_kind, of_no_kind, paired}
use Rattle.colorgrad_c.proofs.judging.colorgrad_apart_told.Goals as goal

pub returns-in_default : goal.returns-in_default
returns-in_default c =
    of_no_kind (apart.Refused misshapen) c.kind_of.ensures c.in_default.is (refl, refl) (paired c.tell_apart.ensures.value c.tell_apart.ensures.told_value)

pub returns : goal.returns
returns c =
    of_a_kind _ c.kind_of.ensures c.in-Some.is c.apart-apart.ensures (paired c.tell_apart-2.ensures.value c.tell_apart-2.ensures.told_value)
