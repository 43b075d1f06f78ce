-- `to_rgb::saturation` meets its contract: each branch of the code is a branch of the definition. Assumes nothing.
use Rattle.hsv.specs.Back.{saturation_of}
use Rattle.hsv.proofs.to_rgb.saturation.Goals as goal

pub returns-then-l : goal.returns-then-l
unfolding saturation_of
returns-then-l c = simp c.if-l.true

pub returns-then-l-2 : goal.returns-then-l-2
unfolding saturation_of
returns-then-l-2 c = simp (c.if-l.false, c.if-l-2.true)

pub returns-then-l-3 : goal.returns-then-l-3
unfolding saturation_of
returns-then-l-3 c = simp (c.if-l.false, c.if-l-2.false, c.if-l-3.true)

pub returns : goal.returns
unfolding saturation_of
returns c = simp (c.if-l.false, c.if-l-2.false, c.if-l-3.false)
