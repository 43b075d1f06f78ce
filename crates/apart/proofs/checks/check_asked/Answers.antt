-- `check_asked` meets its contract: test by test. Assumes nothing.
use Rattle.std.proofs.Common.{rules}
use Rattle.apart.specs.Checks.{asked_check, good_depths, good_step}
use Rattle.apart.proofs.checks.check_asked.Goals as goal

pub returns-then-first_bad-n : goal.returns-then-first_bad-n
unfolding asked_check good_depths good_step
returns-then-first_bad-n c = search rules

pub returns-then-step : goal.returns-then-step
unfolding asked_check good_depths good_step
returns-then-step c = search rules

pub returns-else-step : goal.returns-else-step
unfolding asked_check good_depths good_step
returns-else-step c = search rules
