-- `near::is_between` meets its contract: both answers are yes exactly where their sum, times the length, is above n + k. Assumes nothing.
use native.Mathlib.Omega.{arith}
use lib.ListN.{length}
use Rattle.stops.proofs.Narrowing.{passed_over}
use Rattle.stops.proofs.Nearby.{no_pair, past_all, is_pair}
use Rattle.stops.proofs.near.is_between.Goals as goal

pub returns-then-k-eq0 : goal.returns-then-k-eq0
returns-then-k-eq0 c = no_pair c.args.positions.now c.args.t c.args.k c.if-k-eq0.true

pub returns-then-positions-k : goal.returns-then-positions-k
returns-then-positions-k c = past_all c.args.positions.now c.args.t c.args.k (omega arith) c.if-positions-k.true

pub overflow_mul-result : goal.overflow_mul-result
overflow_mul-result c = omega (arith, passed_over (length c.args.positions.now) _ _ c.below.ensures.1 c.below-2.ensures.1, c.well_formed.0.1)

pub returns : goal.returns
returns c = is_pair c.args.positions.now c.args.t c.args.k (omega arith) c.if-positions-k.false c.below.ensures.0 c.below-2.ensures.0
