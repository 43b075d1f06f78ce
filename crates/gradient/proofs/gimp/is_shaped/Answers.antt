-- `gimp::is_shaped` meets its contract: the tests decide the definition's comparisons. Assumes nothing.
use Rattle.std.proofs.Common.{rules}
use Rattle.gradient.specs.Gimp.{gimp_shaped}
use Rattle.gradient.proofs.gimp.is_shaped.Goals as goal

pub returns-then-channels-n : goal.returns-then-channels-n
unfolding gimp_shaped
returns-then-channels-n c = search rules

pub returns-else-channels-n : goal.returns-else-channels-n
unfolding gimp_shaped
returns-else-channels-n c = search rules
