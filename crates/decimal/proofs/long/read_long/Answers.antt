-- `decimal::long::read_long` meets its contract: a number by the short rule is the same by the long one. Assumes nothing.
use mathlib.Core.Path.{sym, ap, ◌∙◌}
use Rattle.decimal.specs.Long.{read_long_of}
use Rattle.decimal.proofs.Place.{part_to_end}
use Rattle.decimal.proofs.Theorems.{same_number}
use Rattle.decimal.proofs.long.read_long.Goals as goal

pub returns-in-Number : goal.returns-in-Number
returns-in-Number c =
    sym (same_number _ _ (sym c.read.ensures ∙ c.in-Number.is)) ∙ ap read_long_of (part_to_end c.args.s.now 0)

pub returns-in-Number-by_parts : goal.returns-in-Number-by_parts
returns-in-Number-by_parts c =
    sym c.in-Number-by_parts.is ∙ c.by_parts.ensures ∙ ap read_long_of (part_to_end c.args.s.now 0)

pub returns-in-NoNumber : goal.returns-in-NoNumber
returns-in-NoNumber c =
    sym c.in-NoNumber.is ∙ c.by_parts.ensures ∙ ap read_long_of (part_to_end c.args.s.now 0)
