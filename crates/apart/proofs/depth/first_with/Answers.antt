-- `first_with` meets its contract: test by test. Assumes nothing.
use Rattle.std.proofs.Common.{rules}
use Rattle.apart.specs.inner.Steps.{first_next}
use Rattle.apart.proofs.depth.first_with.Goals as goal

pub returns-then-first-i : goal.returns-then-first-i
unfolding first_next
returns-then-first-i c = search rules

pub returns-then-merged : goal.returns-then-merged
unfolding first_next
returns-then-merged c = search rules

pub returns-else-merged : goal.returns-else-merged
unfolding first_next
returns-else-merged c = search rules
