-- `pairs::span_of` meets its contract. The invariant: a power of two that is no more than the last index. Assumes nothing.
use native.Mathlib.Omega.{arith}
use Rattle.paint.proofs.Searching.{one, doubled}
use Rattle.paint.proofs.pairs.span_of.Goals as goal

pub loop-size-init : goal.loop-size-init
loop-size-init c = (omega arith, omega arith, one)

pub loop-size-preserved : goal.loop-size-preserved
loop-size-preserved c = (omega arith, omega arith, doubled _ c.loop-size.invariant.2)

pub returns : goal.returns
returns c = let p = c.loop-size.invariant.2 in record { width = p.width; power = p.power; inside = omega arith; half = omega arith }
