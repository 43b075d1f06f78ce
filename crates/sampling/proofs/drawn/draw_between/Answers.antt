-- `draw_between` meets its contract: the chords in hand or worked out, and the segment by them. Assumes nothing.
use Rattle.sampling.proofs.Drawing.{between_is}
use Rattle.sampling.proofs.drawn.draw_between.Goals as goal

pub returns : goal.returns
returns c =
    let a = c.args in
    between_is a.channels.now a.n a.i a.s.now a.j a.u.now a.k c.comes_after-behind.ensures c.comes_after-ahead.ensures c.less.ensures c.colour-p.ensures c.colour-q.ensures c.left_of-left.ensures c.right_of-right.ensures c.chords_or-before.ensures c.chords_within-within.ensures c.chords_or-after.ensures c.draw_segment-curve.ensures c.with_chords.ensures
