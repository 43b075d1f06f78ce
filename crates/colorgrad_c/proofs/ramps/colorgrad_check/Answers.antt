-- `colorgrad_check` meets its contract: the check of the kind of the code, as a number; a code that names none is refused. Assumes nothing.
use mathlib.Core.Path.{refl}
use Rattle.refusals.specs.Refusals.{misshapen}
use Rattle.stops.specs.declared.Checked.TheVariants as checked
use Rattle.colorgrad_c.proofs.plain.Coding.{of_a_kind, of_no_kind}
use Rattle.colorgrad_c.proofs.ramps.colorgrad_check.Goals as goal

pub returns-in_default : goal.returns-in_default
returns-in_default c = of_no_kind (checked.Refused misshapen) c.kind_of.ensures c.in_default.is refl refl

pub returns : goal.returns
returns c = of_a_kind _ c.kind_of.ensures c.in-Some.is c.check.ensures c.checked_number.ensures
