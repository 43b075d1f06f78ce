-- `left_end` meets its contract: no stop stands there. Assumes nothing.
use lib.Ieee.{div, of_bits}
use Rattle.refresh.proofs.reach.Outer.{no_left}
use Rattle.refresh.proofs.reach.stretch.left_end.Goals as goal

pub returns-then-k-reach : goal.returns-then-k-reach
unfolding div of_bits
returns-then-k-reach c = no_left _ _ _ c.if-k-reach.true
