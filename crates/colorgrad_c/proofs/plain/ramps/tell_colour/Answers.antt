-- `tell_colour` meets its contract: each case of an answer is told. Assumes nothing.
use Rattle.paint.specs.Answers.{number_of_at}
use Rattle.colorgrad_c.specs.plain.Ramps.{colour_told}
use Rattle.colorgrad_c.proofs.plain.Stored.{told_case}
use Rattle.colorgrad_c.proofs.plain.ramps.tell_colour.Goals as goal

pub returns-in-Colour : goal.returns-in-Colour
returns-in-Colour c = let k = told_case _ number_of_at colour_told c.in-Colour.is c.tell.ensures in record { value = k.0; colour_value = k.1 }

pub returns-in-Refused : goal.returns-in-Refused
returns-in-Refused c = let k = told_case _ number_of_at colour_told c.in-Refused.is c.tell-in-Refused.ensures in record { value = k.0; colour_value = k.1 }
