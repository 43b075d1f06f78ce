-- `stops::is_shaped` meets its contract: test by test. Assumes nothing.
use Rattle.std.proofs.Common.{rules}
use Rattle.refusals.specs.Limits.{most_stops}
use Rattle.stops.specs.Stops.{shaped}
use Rattle.stops.proofs.rules.is_shaped.Goals as goal

pub returns-then-ne : goal.returns-then-ne
unfolding most_stops shaped
returns-then-ne c = search rules

pub returns-else-ne : goal.returns-else-ne
unfolding most_stops shaped
returns-else-ne c = search rules

pub returns-else-codes-eq0 : goal.returns-else-codes-eq0
unfolding most_stops shaped
returns-else-codes-eq0 c = search rules
