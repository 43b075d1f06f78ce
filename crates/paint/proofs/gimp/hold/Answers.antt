-- `hold` meets its contract: what was read, part by part. Assumes nothing.
use mathlib.Core.Path.{refl}
use Rattle.gradient.proofs.GimpLaws.{segment_is}
use Rattle.paint.proofs.gimp.hold.Goals as goal

pub returns : goal.returns
returns c =
    let a = c.args in
    segment_is a.positions.now a.channels.now a.codes.now a.i refl refl refl c.colour-lcolor.ensures c.colour-rcolor.ensures refl refl
