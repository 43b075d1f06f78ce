-- `near::segment_for` meets its contract: the colours beside the pair, then the segment. Assumes nothing.
use Rattle.stops.proofs.Nearby.{segment_is}
use Rattle.stops.proofs.near.segment_for.Goals as goal

pub returns : goal.returns
returns c = segment_is c.args.channels.now c.args.n c.args.k c.less.ensures c.colour-p.ensures c.colour-q.ensures c.left_of-left.ensures c.right_of-right.ensures c.segment.ensures
