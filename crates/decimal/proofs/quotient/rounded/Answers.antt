-- `decimal::quotient::rounded` meets its contract: the test says which of m and m + 1 is the nearest. Assumes nothing.
use Rattle.float.proofs.Nearest.{stays, moves}
use Rattle.decimal.proofs.quotient.rounded.Goals as goal

pub returns-then-rest-m : goal.returns-then-rest-m
returns-then-rest-m c = stays _ _ _ c.if-rest-m.true

pub returns-else-rest-m : goal.returns-else-rest-m
returns-else-rest-m c = moves _ _ _ c.if-rest-m.false
