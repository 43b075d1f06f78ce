-- `segments::segment_next` meets its contract: drawn with the chords that it was handed. Assumes nothing.
use Rattle.stops.proofs.Nearby.{segment_is}
use Rattle.stops.proofs.Chording.{drawn_next}
use Rattle.stops.proofs.segments.segment_next.Goals as goal

pub returns : goal.returns
returns c =
    let cs = c.args.channels.now in
    let n = c.args.n in
    let k = c.args.k in
    let e = c.less.ensures in
    let p = c.colour-p.ensures in
    let q = c.colour-q.ensures in
    let l = c.left_of-left.ensures in
    let r = c.right_of-right.ensures in
    segment_is cs n k e p q l r (drawn_next cs n k e p q l r c.chords_before.ensures c.requires.0 c.requires.1 c.draw_segment.ensures)
