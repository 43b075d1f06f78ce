-- `hued::factor` meets its contract: by the blending, and what the calls ensure. Assumes nothing.
use Rattle.gradient.proofs.GimpLaws.{factor_wave, factor_bent}
use Rattle.gradient.proofs.hued.factor.Goals as goal

pub returns-then-blending-eq-SINUSOIDAL : goal.returns-then-blending-eq-SINUSOIDAL
returns-then-blending-eq-SINUSOIDAL c = let a = c.args in factor_wave a.blending a.pivot a.place c.calc_linear_factor-f.ensures c.if-blending-eq-SINUSOIDAL.true c.wave.ensures

pub returns : goal.returns
returns c = let a = c.args in factor_bent a.blending a.pivot a.place c.calc_linear_factor-f.ensures c.if-blending-eq-SINUSOIDAL.false c.bend.ensures
