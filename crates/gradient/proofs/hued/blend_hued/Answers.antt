-- `hued::blend_hued` meets its contract: a step shows an end; any other blending turns the hue at the factor that the calls ensure. Assumes nothing.
use Rattle.gradient.proofs.GimpLaws.{hued_right, hued_left, hued_curve, hued_at}
use Rattle.gradient.proofs.hued.blend_hued.Goals as goal

pub returns-then-place-pivot : goal.returns-then-place-pivot
returns-then-place-pivot c = let a = c.args in hued_right a.g a.pivot a.place c.if-g-eq-STEP.true c.if-place-pivot.true c.there_and_back.ensures

pub returns-then-g-eq-STEP : goal.returns-then-g-eq-STEP
returns-then-g-eq-STEP c = let a = c.args in hued_left a.g a.pivot a.place c.if-g-eq-STEP.true c.if-place-pivot.false c.there_and_back-then-g-eq-STEP.ensures

pub returns-then-g-eq-CURVED : goal.returns-then-g-eq-CURVED
returns-then-g-eq-CURVED c = let a = c.args in hued_curve a.g a.pivot a.place c.if-g-eq-STEP.false c.if-g-eq-CURVED.true c.curve_hued.ensures

pub returns : goal.returns
returns c = let a = c.args in hued_at a.g a.pivot a.place c.if-g-eq-STEP.false c.if-g-eq-CURVED.false c.factor-f.ensures c.turn.ensures
