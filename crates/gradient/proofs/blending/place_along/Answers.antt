-- `blending::place_along` meets its contract: each branch of the code is a branch of the definition. Assumes nothing.
use Rattle.gradient.specs.Gimp.{along}
use Rattle.gradient.proofs.blending.place_along.Goals as goal

pub returns-then-length : goal.returns-then-length
unfolding along
returns-then-length c = simp c.if-length.true

pub returns : goal.returns
unfolding along
returns c = simp c.if-length.false
