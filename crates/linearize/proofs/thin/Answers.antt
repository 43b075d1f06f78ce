-- `thin` meets its contract: a refusal before the list changes nothing; else the list of the record's points. Assumes nothing.
use mathlib.Core.Path.{sym, ◌∙◌}
use Rattle.sampling.proofs.Checks.{ramp_fine}
use Rattle.records.proofs.Passing.{sample_fine}
use Rattle.linearize.proofs.Checks.{ready}
use Rattle.linearize.proofs.Answers.{thin_refused, thin_done}
use Rattle.sampling.proofs.Thresholds.{far_by_cutoff}
use Rattle.linearize.proofs.thin.Goals as goal

pub thin_record-requires : goal.thin_record-requires
thin_record-requires c =
    let fine = sym c.check_thin.ensures.answer ∙ c.in-Fine.is in
    (ready _ _ _ fine, ramp_fine _ _ _ _ (sample_fine _ _ _ fine))

pub returns-in-Refused : goal.returns-in-Refused
returns-in-Refused c = thin_refused _ _ _ _ _ (sym c.check_thin.ensures.answer ∙ c.in-Refused.is)

pub returns-in-Fine : goal.returns-in-Fine
returns-in-Fine c =
    thin_done _ _ _ _ _ _ _ (sym c.check_thin.ensures.answer ∙ c.in-Fine.is) (far_by_cutoff _ _ c.cutoff_of-cutoff.ensures) c.max-max.ensures c.thin_record.ensures
