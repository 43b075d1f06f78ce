-- `is_sized` meets its contract: test by test. Assumes nothing.
use Rattle.std.proofs.Common.{rules}
use Rattle.judge.specs.Lists.{sized}
use Rattle.judge.proofs.checks.is_sized.Goals as goal

pub returns-then-n-le-MOST_LISTED : goal.returns-then-n-le-MOST_LISTED
unfolding sized
returns-then-n-le-MOST_LISTED c = search rules

pub returns-else-n-le-MOST_LISTED : goal.returns-else-n-le-MOST_LISTED
unfolding sized
returns-else-n-le-MOST_LISTED c = search rules
