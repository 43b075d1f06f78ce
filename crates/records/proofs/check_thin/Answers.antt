-- `check_thin` meets its contract: the refusals of a sampling first; then 5 of a count, then 20. Assumes nothing.
use mathlib.Core.Path.{sym, ◌∙◌}
use Rattle.stops.proofs.Checking.{checks}
use Rattle.sampling.proofs.Checks.{record_lengths}
use Rattle.records.proofs.Passing.{sample_refuses, sample_passes}
use Rattle.records.proofs.check_thin.Goals as goal

pub check_marks-marked-requires : goal.check_marks-marked-requires
check_marks-marked-requires c =
    (record_lengths _ _ _ _ (sym c.check_sample.ensures.answer ∙ c.in-Fine.is)).three

pub returns-in-Refused : goal.returns-in-Refused
returns-in-Refused c = checks (sample_refuses _ _ _ _ (sym c.check_sample.ensures.answer ∙ c.in-Refused.is))

pub returns-in-Fine : goal.returns-in-Fine
returns-in-Fine c =
    checks (sample_passes _ _ _ _ _ _ (sym c.check_sample.ensures.answer ∙ c.in-Fine.is) c.check_counts-counted.ensures c.check_marks-marked.ensures c.in_order.ensures)
