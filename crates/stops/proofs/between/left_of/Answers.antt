-- `stops::left_of` meets its contract: a stop, or what would lie past the end. Assumes nothing.
use Rattle.stops.proofs.Pairs.{left_inner, left_outer}
use Rattle.stops.proofs.between.left_of.Goals as goal

pub returns-then-k-gt1 : goal.returns-then-k-gt1
returns-then-k-gt1 c = left_inner c.args.channels.now c.args.k c.args.p c.args.q c.if-k-gt1.true c.colour.ensures

pub returns-else-k-gt1 : goal.returns-else-k-gt1
returns-else-k-gt1 c = left_outer c.args.channels.now c.args.k c.args.p c.args.q c.if-k-gt1.false c.past.ensures
