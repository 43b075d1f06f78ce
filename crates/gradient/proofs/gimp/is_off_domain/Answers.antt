-- `gimp::is_off_domain` meets its contract: the tests in the definition's order. Assumes nothing.
use Rattle.std.proofs.Common.{rules}
use Rattle.gradient.specs.Gimp.{off_domain}
use Rattle.gradient.proofs.gimp.is_off_domain.Goals as goal

pub returns-then-t-2 : goal.returns-then-t-2
unfolding off_domain
returns-then-t-2 c = search rules

pub returns-else-t-2 : goal.returns-else-t-2
unfolding off_domain
returns-else-t-2 c = search rules
