-- `stops::right_of` meets its contract: a stop, or what would lie past the end. Assumes nothing.
use Rattle.stops.proofs.Pairs.{right_inner, right_outer}
use Rattle.stops.proofs.between.right_of.Goals as goal

pub returns-then-k-less : goal.returns-then-k-less
returns-then-k-less c = right_inner c.args.channels.now c.args.k c.args.p c.args.q c.args.n c.less.ensures c.if-k-less.true c.colour.ensures

pub returns-else-k-less : goal.returns-else-k-less
returns-else-k-less c = right_outer c.args.channels.now c.args.k c.args.p c.args.q c.args.n c.less.ensures c.if-k-less.false c.past.ensures
