-- `blending::calc_linear_factor` meets its contract: each branch of the code is a branch of the definition. Assumes nothing.
use Rattle.gradient.specs.Gimp.{linear_factor}
use Rattle.gradient.proofs.blending.calc_linear_factor.Goals as goal

pub returns-then-middle : goal.returns-then-middle
unfolding linear_factor
returns-then-middle c = simp (c.if-place-middle.true, c.if-middle.true)

pub returns-then-place-middle : goal.returns-then-place-middle
unfolding linear_factor
returns-then-place-middle c = simp (c.if-place-middle.true, c.if-middle.false)

pub returns-then-middle-2 : goal.returns-then-middle-2
unfolding linear_factor
returns-then-middle-2 c = simp (c.if-place-middle.false, c.if-middle-2.true)

pub returns : goal.returns
unfolding linear_factor
returns c = simp (c.if-place-middle.false, c.if-middle-2.false)
