-- `tell_listed` meets its contract: each case of an answer is told. Assumes nothing.
use Rattle.linearize.specs.Desk.{number_of_listed}
use Rattle.colorgrad_c.specs.plain.Lists.{listed_told}
use Rattle.colorgrad_c.proofs.plain.Stored.{told_case}
use Rattle.colorgrad_c.proofs.plain.lists.tell_listed.Goals as goal

pub returns-in-Done : goal.returns-in-Done
returns-in-Done c = let k = told_case _ number_of_listed listed_told c.in-Done.is c.tell.ensures in record { value = k.0; told_value = k.1 }

pub returns-in-Refused : goal.returns-in-Refused
returns-in-Refused c = let k = told_case _ number_of_listed listed_told c.in-Refused.is c.tell-in-Refused.ensures in record { value = k.0; told_value = k.1 }
