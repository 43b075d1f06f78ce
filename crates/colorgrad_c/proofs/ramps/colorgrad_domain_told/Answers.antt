-- `colorgrad_domain_told` meets its contract: the domain for the kind of the code, told; a code that names none is refused. Assumes nothing.
use mathlib.Core.Path.{refl}
use Rattle.refusals.specs.Refusals.{misshapen}
use Rattle.float.specs.F32.{f0}
use Rattle.stops.specs.declared.Checked.TheVariants as checked
use Rattle.colorgrad_c.specs.Ramps.{domain_by}
use Rattle.colorgrad_c.proofs.plain.Coding.{of_a_kind, of_no_kind, paired}
use Rattle.colorgrad_c.proofs.Ends.{domain_is}
use Rattle.colorgrad_c.proofs.ramps.colorgrad_domain_told.Goals as goal

pub returns-in_default : goal.returns-in_default
returns-in_default c =
    of_no_kind (domain_by (checked.Refused misshapen) f0 f0) c.kind_of.ensures c.in_default.is refl (paired c.tell_domain.ensures.value c.tell_domain.ensures.ends_value)

pub returns : goal.returns
returns c =
    of_a_kind _ c.kind_of.ensures c.in-Some.is (domain_is c.check-checked.ensures.answer c.min-min.ensures c.max-max.ensures) (paired c.tell_domain-2.ensures.value c.tell_domain-2.ensures.ends_value)
