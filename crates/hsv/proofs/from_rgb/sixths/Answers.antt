-- `from_rgb::sixths` meets its contract: each branch of the code is a branch of the definition. Assumes nothing.
use Rattle.hsv.specs.There.{sixths_of}
use Rattle.hsv.proofs.from_rgb.sixths.Goals as goal

pub returns-then-q : goal.returns-then-q
unfolding sixths_of
returns-then-q c = simp (c.if-r-value.true, c.if-q.true)

pub returns-then-r-value : goal.returns-then-r-value
unfolding sixths_of
returns-then-r-value c = simp (c.if-r-value.true, c.if-q.false)

pub returns-then-g-value : goal.returns-then-g-value
unfolding sixths_of
returns-then-g-value c = simp (c.if-r-value.false, c.if-g-value.true)

pub returns : goal.returns
unfolding sixths_of
returns c = simp (c.if-r-value.false, c.if-g-value.false)
