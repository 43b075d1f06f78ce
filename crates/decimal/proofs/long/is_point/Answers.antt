-- `decimal::long::is_point` meets its contract. Assumes nothing.
use native.Mathlib.Omega.{arith}
use Rattle.decimal.proofs.LongPlace.{point_end, point_at}
use Rattle.decimal.proofs.long.is_point.Goals as goal

pub returns-then-at-s : goal.returns-then-at-s
returns-then-at-s c = point_end _ _ (omega arith) c.if-at-s.true

pub returns : goal.returns
returns c = let a = c.args in point_at a.s.now a.at (omega arith)
