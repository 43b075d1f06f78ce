-- `tell_domain` meets its contract: each case of a check is told. Assumes nothing.
use Rattle.stops.specs.declared.Checked.{Checked}
use Rattle.stops.specs.Answers.{number_of_checked}
use Rattle.colorgrad_c.specs.plain.Ramps.{ends_told}
use Rattle.colorgrad_c.proofs.plain.Stored.{told_case}
use Rattle.colorgrad_c.proofs.plain.ramps.tell_domain.Goals as goal

pub returns-in-Fine : goal.returns-in-Fine
returns-in-Fine c =
    let k = told_case _ number_of_checked (λ (x : Checked). ends_told x c.args.min c.args.max) c.in-Fine.is c.tell.ensures in
    record { value = k.0; ends_value = k.1 }

pub returns-in-Refused : goal.returns-in-Refused
returns-in-Refused c =
    let k = told_case _ number_of_checked (λ (x : Checked). ends_told x c.args.min c.args.max) c.in-Refused.is c.tell-in-Refused.ensures in
    record { value = k.0; ends_value = k.1 }
