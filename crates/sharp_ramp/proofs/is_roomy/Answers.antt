-- `sharp::is_roomy` meets its contract: the tests decide the definition's comparisons. Assumes nothing.
use Rattle.std.proofs.Common.{rules}
use Rattle.sharp_ramp.specs.Sharp.{roomy}
use Rattle.sharp_ramp.proofs.is_roomy.Goals as goal

pub returns-then-n-positions : goal.returns-then-n-positions
unfolding roomy
returns-then-n-positions c = search rules

pub returns-else-n-positions : goal.returns-else-n-positions
unfolding roomy
returns-else-n-positions c = search rules
