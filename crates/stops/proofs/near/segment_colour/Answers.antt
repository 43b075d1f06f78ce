-- `near::segment_colour` meets its contract: by the place. Assumes nothing.
use mathlib.Core.Path.{refl}
use Rattle.stops.specs.Near.{segment_in}
use Rattle.stops.proofs.Nearby.{by_end, by_nowhere, by_between}
use Rattle.stops.proofs.near.segment_colour.Goals as goal

pub returns-in-End : goal.returns-in-End
returns-in-End c = by_end c.args.positions.now c.args.channels.now c.args.s c.args.t c.in-End.i c.in-End.is c.colour.ensures

pub returns-in-Nowhere : goal.returns-in-Nowhere
unfolding segment_in
returns-in-Nowhere c = by_nowhere c.args.positions.now c.args.channels.now c.args.s c.args.t c.in-Nowhere.is refl

pub returns-in-Between : goal.returns-in-Between
returns-in-Between c =
    by_between c.args.positions.now c.args.channels.now c.args.s c.args.t c.in-Between.k c.in-Between.is c.less.ensures c.stop-p.ensures c.stop-q.ensures c.share.ensures c.segment_at.ensures
