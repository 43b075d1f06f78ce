-- `from_rgb::smaller` meets its contract: each branch of the code is a branch of the definition. Assumes nothing.
use Rattle.hsv.specs.There.{smaller}
use Rattle.hsv.proofs.from_rgb.smaller.Goals as goal

pub returns-then-y-x : goal.returns-then-y-x
unfolding smaller
returns-then-y-x c = simp c.if-y-x.true

pub returns-else-y-x : goal.returns-else-y-x
unfolding smaller
returns-else-y-x c = simp c.if-y-x.false
