-- `is_good` meets its contract: test by test. Assumes nothing.
use Rattle.std.proofs.Common.{rules}
use Rattle.apart.specs.Checks.{good_depth}
use Rattle.apart.proofs.checks.is_good.Goals as goal

pub returns-then-not-max-d : goal.returns-then-not-max-d
unfolding good_depth
returns-then-not-max-d c = search rules

pub returns-else-not-max-d : goal.returns-else-not-max-d
unfolding good_depth
returns-else-not-max-d c = search rules
