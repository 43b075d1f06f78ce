-- `blending::blend` meets its contract: a step gives an end colour; any other blending mixes at the factor that the calls ensure. Assumes nothing.
use Rattle.gradient.proofs.GimpLaws.{step_right, step_left, mixed_at}
use Rattle.gradient.proofs.blending.blend.Goals as goal

pub returns-then-place-pivot : goal.returns-then-place-pivot
returns-then-place-pivot c = let a = c.args in step_right a.g a.pivot a.place c.if-g-eq-STEP.true c.if-place-pivot.true

pub returns-then-g-eq-STEP : goal.returns-then-g-eq-STEP
returns-then-g-eq-STEP c = let a = c.args in step_left a.g a.pivot a.place c.if-g-eq-STEP.true c.if-place-pivot.false

pub returns : goal.returns
returns c = let a = c.args in mixed_at a.g a.pivot a.place c.if-g-eq-STEP.false c.calc_linear_factor.ensures c.bend-f.ensures c.interpolate_linear.ensures
