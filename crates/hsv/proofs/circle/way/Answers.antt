-- `circle::way` meets its contract: each branch of the code is a branch of the definition. Assumes nothing.
use Rattle.hsv.specs.Circle.{way}
use Rattle.hsv.proofs.Steps.{way_taken, way_kept}
use Rattle.hsv.proofs.circle.way.Goals as goal

pub returns-then-from-to : goal.returns-then-from-to
unfolding way
returns-then-from-to c = simp c.if-from-to.true

pub returns-then-h-end : goal.returns-then-h-end
returns-then-h-end c = let a = c.args in way_taken a.from a.to a.end a.t c.if-from-to.false c.if-h-end.true

pub returns : goal.returns
returns c = let a = c.args in way_kept a.from a.to a.end a.t c.if-from-to.false c.if-h-end.false
