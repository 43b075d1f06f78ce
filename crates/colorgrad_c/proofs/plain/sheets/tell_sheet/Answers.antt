-- `tell_sheet` meets its contract: each case of an answer is told. Assumes nothing.
use Rattle.sheet.specs.Answers.{number_of_sheet}
use Rattle.colorgrad_c.specs.plain.Sheets.{sheet_told}
use Rattle.colorgrad_c.proofs.plain.Stored.{told_case}
use Rattle.colorgrad_c.proofs.plain.sheets.tell_sheet.Goals as goal

pub returns-in-Done : goal.returns-in-Done
returns-in-Done c =
    let k = told_case _ number_of_sheet (sheet_told c.args.stops) c.in-Done.is c.tell.ensures in
    record { value = k.0; told_value = k.1 }

pub returns-in-Unlisted : goal.returns-in-Unlisted
returns-in-Unlisted c =
    let k = told_case _ number_of_sheet (sheet_told c.args.stops) c.in-Unlisted.is c.tell-in-Unlisted.ensures in
    record { value = k.0; told_value = k.1 }

pub returns-in-Refused : goal.returns-in-Refused
returns-in-Refused c =
    let k = told_case _ number_of_sheet (sheet_told c.args.stops) c.in-Refused.is c.tell-in-Refused.ensures in
    record { value = k.0; told_value = k.1 }
