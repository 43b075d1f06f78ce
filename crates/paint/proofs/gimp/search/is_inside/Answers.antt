-- `is_inside` meets its contract: both answers are yes exactly where their sum, times the length, is above n + i. Assumes nothing.
use native.Mathlib.Omega.{arith}
use lib.ListN.{length}
use lib.Ieee.{lt}
use Rattle.stops.proofs.Narrowing.{passed_over}
use Rattle.stops.proofs.Nearby.{both_yes}
use Rattle.gradient.specs.Gimp.{left_at, right_at}
use Rattle.paint.proofs.gimp.search.is_inside.Goals as goal

pub overflow_mul-result : goal.overflow_mul-result
overflow_mul-result c = omega (arith, passed_over (length c.args.positions.now) _ _ c.below.ensures.1 c.below-2.ensures.1, c.well_formed.0.1)

pub returns : goal.returns
returns c = both_yes (length c.args.positions.now) c.args.i (omega arith) (lt (left_at c.args.positions.now c.args.i) c.args.t) (lt c.args.t (right_at c.args.positions.now c.args.i)) c.below.ensures.0 c.below-2.ensures.0
