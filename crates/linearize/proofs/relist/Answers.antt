-- `relist` meets its contract: the counts kept are tested, then a resampling, then the list of its points; a refusal before the list changes nothing. Assumes nothing.
use mathlib.Core.Path.{sym, ◌∙◌}
use Rattle.sampling.proofs.Thresholds.{far_by_cutoff}
use Rattle.sampling.proofs.Answers.{again_is}
use Rattle.sampling.proofs.Checks.{ramp_fine}
use Rattle.linearize.proofs.Lists.{after_few}
use Rattle.linearize.proofs.Relisting.{resampled_ready, again_bound, made_bound, relist_bad, relist_refused, relist_done}
use Rattle.linearize.proofs.relist.Goals as goal

pub returns-then-not-kept_good : goal.returns-then-not-kept_good
returns-then-not-kept_good c = relist_bad _ _ _ _ _ _ _ (sym c.kept_good.ensures ∙ c.if-not-kept_good.true) c.check_sample.ensures.answer c.refused_by.ensures

pub thin_record-made-requires : goal.thin_record-made-requires
thin_record-made-requires c =
    let w = again_is _ _ _ _ _ _ c.in-Done.is c.resample.ensures in
    let good = sym c.kept_good.ensures ∙ c.if-not-kept_good.false in
    (resampled_ready _ _ _ _ _ w.fine good w.left, ramp_fine _ _ _ _ w.fine)

pub returns-in-Refused : goal.returns-in-Refused
returns-in-Refused c =
    relist_refused _ _ _ _ _ _ _ c.in-Refused.is c.resample.ensures

pub returns-in-Done : goal.returns-in-Done
returns-in-Done c =
    let w = again_is _ _ _ _ _ _ c.in-Done.is c.resample.ensures in
    let good = sym c.kept_good.ensures ∙ c.if-not-kept_good.false in
    let made = c.thin_record-made.ensures in
    let few = again_bound _ _ _ _ w.spent in
    let most = made_bound _ _ _ _ _ _ (resampled_ready _ _ _ _ _ w.fine good w.left) made in
    relist_done _ _ _ _ _ _ _ _ _ _ w good (far_by_cutoff _ _ c.cutoff_of-cutoff.ensures) c.max-max.ensures made (after_few _ c.thin_record-made.result c.after.ensures few most)
