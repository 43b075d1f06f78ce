-- `stops::between_at` meets its contract: the pair that was read. Assumes nothing.
use Rattle.stops.proofs.Pairs.{by_pair}
use Rattle.stops.proofs.between.between_at.Goals as goal

pub returns : goal.returns
returns c = by_pair c.args.kind c.args.positions.now c.args.channels.now c.args.t c.args.k c.less.ensures c.stop-p.ensures c.stop-q.ensures c.pair_colour.ensures
