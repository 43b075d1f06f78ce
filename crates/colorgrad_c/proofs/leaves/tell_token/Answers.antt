-- `tell_token` meets its contract: each case of an answer is told. Assumes nothing.
use Rattle.colorgrad_c.specs.Leaves.{is_number, value_told}
use Rattle.colorgrad_c.proofs.plain.Stored.{told_case}
use Rattle.colorgrad_c.proofs.leaves.tell_token.Goals as goal

pub returns-in-Number : goal.returns-in-Number
returns-in-Number c =
    let k = told_case _ is_number value_told c.in-Number.is c.tell.ensures in
    record { value = k.0; value_value = k.1 }

pub returns-in-NoNumber : goal.returns-in-NoNumber
returns-in-NoNumber c =
    let k = told_case _ is_number value_told c.in-NoNumber.is c.tell-in-NoNumber.ensures in
    record { value = k.0; value_value = k.1 }
