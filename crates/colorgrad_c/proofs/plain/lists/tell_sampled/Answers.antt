-- `tell_sampled` meets its contract: each case of an answer is told. Assumes nothing.
use Rattle.sampling.specs.Sampling.{number_of_sampled}
use Rattle.colorgrad_c.specs.plain.Lists.{sampled_told}
use Rattle.colorgrad_c.proofs.plain.Stored.{told_case}
use Rattle.colorgrad_c.proofs.plain.lists.tell_sampled.Goals as goal

pub returns-in-Done : goal.returns-in-Done
returns-in-Done c = let k = told_case _ number_of_sampled sampled_told c.in-Done.is c.tell.ensures in record { value = k.0; told_value = k.1 }

pub returns-in-Refused : goal.returns-in-Refused
returns-in-Refused c = let k = told_case _ number_of_sampled sampled_told c.in-Refused.is c.tell-in-Refused.ensures in record { value = k.0; told_value = k.1 }
