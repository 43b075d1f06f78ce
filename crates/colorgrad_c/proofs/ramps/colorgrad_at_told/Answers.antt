-- `colorgrad_at_told` meets its contract: the call for the kind of the code, its answer told; a code that names none is refused. Assumes nothing.
use mathlib.Core.Path.{refl}
use Rattle.refusals.specs.Refusals.{misshapen}
use Rattle.paint.specs.declared.ColourAnswer.TheVariants as answer
use Rattle.colorgrad_c.proofs.plain.Coding.{of_a_kind, of_no_kind, paired}
use Rattle.colorgrad_c.proofs.ramps.colorgrad_at_told.Goals as goal

pub returns-in_default : goal.returns-in_default
returns-in_default c =
    of_no_kind (answer.Refused misshapen) c.kind_of.ensures c.in_default.is refl (paired c.tell_colour.ensures.value c.tell_colour.ensures.colour_value)

pub returns : goal.returns
returns c =
    of_a_kind _ c.kind_of.ensures c.in-Some.is c.at.ensures (paired c.tell_colour-2.ensures.value c.tell_colour-2.ensures.colour_value)
