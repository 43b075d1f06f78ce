-- `utils::interpolate_linear` meets its contract: by definition. Assumes nothing.
use Rattle.std.proofs.Common.{rules}
use Rattle.blend.specs.Blend.{linear}
use Rattle.blend.proofs.utils.interpolate_linear.Goals as goal

pub returns : goal.returns
unfolding linear
returns c = search rules
