-- `from_rgb::larger` meets its contract: each branch of the code is a branch of the definition. Assumes nothing.
use Rattle.hsv.specs.There.{larger}
use Rattle.hsv.proofs.from_rgb.larger.Goals as goal

pub returns-then-x-y : goal.returns-then-x-y
unfolding larger
returns-then-x-y c = simp c.if-x-y.true

pub returns-else-x-y : goal.returns-else-x-y
unfolding larger
returns-else-x-y c = simp c.if-x-y.false
