-- `tell_built` meets its contract: each case of an answer is told. Assumes nothing.
use Rattle.sharp_ramp.specs.Sharp.{number_of_built}
use Rattle.colorgrad_c.specs.plain.Ramps.{built_told}
use Rattle.colorgrad_c.proofs.plain.Stored.{told_case}
use Rattle.colorgrad_c.proofs.plain.ramps.tell_built.Goals as goal

pub returns-in-Stops : goal.returns-in-Stops
returns-in-Stops c = let k = told_case _ number_of_built built_told c.in-Stops.is c.tell.ensures in record { value = k.0; told_value = k.1 }

pub returns-in-Refused : goal.returns-in-Refused
returns-in-Refused c = let k = told_case _ number_of_built built_told c.in-Refused.is c.tell-in-Refused.ensures in record { value = k.0; told_value = k.1 }
