-- `tell_apart` meets its contract: each case of an answer is told. Assumes nothing.
use Rattle.apart.specs.Answers.{number_of_apart}
use Rattle.colorgrad_c.proofs.plain.Stored.{told_case}
use Rattle.colorgrad_c.specs.Judging.{apart_told}
use Rattle.colorgrad_c.proofs.judging.tell_apart.Goals as goal

pub returns-in-Told : goal.returns-in-Told
returns-in-Told c =
    let k = told_case _ number_of_apart apart_told c.in-Told.is c.tell.ensures in
    record { value = k.0; told_value = k.1 }

pub returns-in-Refused : goal.returns-in-Refused
returns-in-Refused c =
    let k = told_case _ number_of_apart apart_told c.in-Refused.is c.tell-in-Refused.ensures in
    record { value = k.0; told_value = k.1 }
