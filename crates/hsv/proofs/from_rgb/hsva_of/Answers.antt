-- `from_rgb::hsva_of` meets its contract: a grey, or a colour with a hue. Assumes nothing.
use Rattle.hsv.proofs.Steps.{grey, hued}
use Rattle.hsv.proofs.from_rgb.hsva_of.Goals as goal

pub returns-then-d : goal.returns-then-d
returns-then-d c = grey c.args.c c.larger.ensures c.larger-value.ensures c.smaller.ensures c.smaller-2.ensures c.if-d.true

pub returns : goal.returns
returns c = hued c.args.c c.larger.ensures c.larger-value.ensures c.smaller.ensures c.smaller-2.ensures c.if-d.false c.sixths.ensures
