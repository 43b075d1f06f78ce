-- `to_rgb::upper` meets its contract: each branch of the code is a branch of the definition. Assumes nothing.
use Rattle.hsv.specs.Back.{upper_of}
use Rattle.hsv.proofs.to_rgb.upper.Goals as goal

pub returns-then-l : goal.returns-then-l
unfolding upper_of
returns-then-l c = simp c.if-l.true

pub returns : goal.returns
unfolding upper_of
returns c = simp c.if-l.false
