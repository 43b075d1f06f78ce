-- `is_good` meets its contract: test by test. Assumes nothing.
use Rattle.std.proofs.Common.{rules}
use Rattle.judge.specs.Lists.{good_stop}
use Rattle.judge.proofs.checks.is_good.Goals as goal

pub returns-then-is_finite_colour : goal.returns-then-is_finite_colour
unfolding good_stop
returns-then-is_finite_colour c = search rules

pub returns-else-is_finite_colour : goal.returns-else-is_finite_colour
unfolding good_stop
returns-else-is_finite_colour c = search rules
