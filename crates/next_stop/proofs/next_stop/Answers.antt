-- `next_stop` meets its contract: a refusal of the check, or the step from the place. Assumes nothing.
use mathlib.Core.Path.{◌∙◌}
use Rattle.sampling.proofs.Checks.{ramp_fine}
use Rattle.sampling.proofs.Thresholds.{far_by_cutoff}
use Rattle.records.proofs.Passing.{sample_fine}
use Rattle.linearize.proofs.Checks.{ready}
use Rattle.next_stop.proofs.Handing.{step_check_lem, thin_fine, place_fine, step_refused, step_done}
use Rattle.next_stop.proofs.next_stop.Goals as goal

pub step_from-requires : goal.step_from-requires
step_from-requires c =
    let e = step_check_lem _ _ _ _ c.is_within.ensures c.check_thin-checked.ensures.answer c.placed_check.ensures ∙ c.in-Fine.is in
    record { ready = (ready _ _ _ (thin_fine _ _ _ _ e), ramp_fine _ _ _ _ (sample_fine _ _ _ (thin_fine _ _ _ _ e))); place_value = place_fine _ _ _ _ e }

pub returns-in-Refused : goal.returns-in-Refused
returns-in-Refused c =
    step_refused _ _ _ _ _ (step_check_lem _ _ _ _ c.is_within.ensures c.check_thin-checked.ensures.answer c.placed_check.ensures ∙ c.in-Refused.is)

pub returns-in-Fine : goal.returns-in-Fine
returns-in-Fine c =
    step_done _ _ _ _ _ _ _ (step_check_lem _ _ _ _ c.is_within.ensures c.check_thin-checked.ensures.answer c.placed_check.ensures ∙ c.in-Fine.is)
    (far_by_cutoff _ _ c.cutoff_of-cutoff.ensures) c.max-max.ensures c.step_from.ensures
