-- `own_end` meets its contract: a stop before the last one. Assumes nothing.
use native.Mathlib.Omega.{arith}
use lib.Ieee.{div, of_bits}
use Rattle.refresh.proofs.reach.Outer.{not_last}
use Rattle.refresh.proofs.reach.stretch.own_end.Goals as goal

pub returns-then-k-saturating_sub : goal.returns-then-k-saturating_sub
unfolding div of_bits
returns-then-k-saturating_sub c = not_last _ _ (omega arith)
