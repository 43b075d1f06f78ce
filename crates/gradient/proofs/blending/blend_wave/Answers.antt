-- `blending::blend_wave` meets its contract: mixed at the wave of the factor. Assumes nothing.
use Rattle.gradient.proofs.GimpLaws.{waved_at}
use Rattle.gradient.proofs.blending.blend_wave.Goals as goal

pub returns : goal.returns
returns c = waved_at _ _ _ c.calc_linear_factor.ensures c.wave-f.ensures c.interpolate_linear.ensures
