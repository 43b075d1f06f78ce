-- `thin_within` meets its contract: a refusal before the list changes nothing; else the list of the record's points. Assumes nothing.
use mathlib.Core.Path.{sym, ◌∙◌}
use Rattle.sampling.proofs.Checks.{ramp_fine}
use Rattle.records.proofs.Passing.{sample_fine}
use Rattle.linearize.proofs.Checks.{ready}
use Rattle.within.proofs.Making.{thin_refused, thin_done}
use Rattle.within.proofs.thin_within.Goals as goal

pub list_within-requires : goal.list_within-requires
list_within-requires c =
    let fine = sym c.check_thin.ensures.answer ∙ c.in-Fine.is in
    (ready _ _ _ fine, ramp_fine _ _ _ _ (sample_fine _ _ _ fine))

pub returns-in-Refused : goal.returns-in-Refused
returns-in-Refused c = thin_refused _ _ _ _ _ _ (sym c.check_thin.ensures.answer ∙ c.in-Refused.is)

pub returns-in-Fine : goal.returns-in-Fine
returns-in-Fine c =
    thin_done _ _ _ _ _ _ (sym c.check_thin.ensures.answer ∙ c.in-Fine.is) c.list_within.ensures
