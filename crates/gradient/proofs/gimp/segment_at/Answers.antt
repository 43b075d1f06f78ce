-- `gimp::segment_at` meets its contract: what was read, part by part. Assumes nothing.
use Rattle.gradient.proofs.GimpLaws.{segment_is}
use Rattle.gradient.proofs.gimp.segment_at.Goals as goal

pub returns : goal.returns
returns c =
    let a = c.args in
    segment_is a.positions.now a.channels.now a.codes.now a.i c.item-left.ensures c.item-middle.ensures c.item-right.ensures c.colour-lcolor.ensures c.colour-rcolor.ensures c.code-blending.ensures c.code-colouring.ensures
