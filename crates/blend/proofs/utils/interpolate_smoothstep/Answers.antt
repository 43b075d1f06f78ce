-- `utils::interpolate_smoothstep` meets its contract: by definition. Assumes nothing.
use Rattle.std.proofs.Common.{rules}
use Rattle.blend.specs.Blend.{smooth}
use Rattle.blend.proofs.utils.interpolate_smoothstep.Goals as goal

pub returns : goal.returns
unfolding smooth
returns c = search rules
