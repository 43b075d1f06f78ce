-- `colorgrad_paint` meets its contract: the call of `paint` for the kind of the code, its answer as a number; a code that names none is refused. Assumes nothing.
use mathlib.Core.Path.{refl}
use Rattle.refusals.specs.Refusals.{misshapen}
use Rattle.paint.specs.declared.Painted.TheVariants as painted
use Rattle.colorgrad_c.proofs.plain.Coding.{of_a_kind, of_no_kind}
use Rattle.colorgrad_c.proofs.ramps.colorgrad_paint.Goals as goal

pub returns-in_default : goal.returns-in_default
returns-in_default c = of_no_kind (painted.Refused misshapen) c.kind_of.ensures c.in_default.is (refl, refl) refl

pub returns : goal.returns
returns c = of_a_kind _ c.kind_of.ensures c.in-Some.is c.paint.ensures c.painted_number.ensures
