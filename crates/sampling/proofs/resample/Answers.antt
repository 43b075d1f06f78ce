-- `resample` meets its contract: a refusal changes nothing; else the cells that are not kept are the ramp's. Assumes nothing.
use mathlib.Core.Path.{sym, ◌∙◌}
use native.Mathlib.Omega.{arith}
use Rattle.sampling.proofs.Thresholds.{far_by_cutoff}
use Rattle.sampling.proofs.Bounds.{renewed_bound}
use Rattle.sampling.proofs.Checks.{ramp_fine, record_lengths}
use Rattle.sampling.proofs.Answers.{resample_refused, resample_done}
use Rattle.sampling.proofs.resample.Goals as goal

pub resample_cells-n-requires : goal.resample_cells-n-requires
resample_cells-n-requires c =
    let fine = sym c.check_sample.ensures.answer ∙ c.in-Fine.is in
    let l = record_lengths _ _ _ _ fine in
    record { rows_len = (l.long, l.many); codes_value = ramp_fine _ _ _ _ fine }

pub put-requires : goal.put-requires
put-requires c =
    (record_lengths _ _ _ _ (sym c.check_sample.ensures.answer ∙ c.in-Fine.is)).three

pub overflow_mul-evaluations : goal.overflow_mul-evaluations
overflow_mul-evaluations c =
    omega (arith, renewed_bound _ _ _ _ _ _ _ c.resample_cells-n.ensures)

pub returns-in-Refused : goal.returns-in-Refused
returns-in-Refused c = resample_refused _ _ _ _ _ (sym c.check_sample.ensures.answer ∙ c.in-Refused.is)

pub returns-in-Fine : goal.returns-in-Fine
returns-in-Fine c =
    resample_done _ _ _ _ _ _ _ _ _ (sym c.check_sample.ensures.answer ∙ c.in-Fine.is) (far_by_cutoff _ _ c.cutoff_of-cutoff.ensures) c.min-min.ensures c.max-max.ensures c.resample_cells-n.ensures c.put.ensures
