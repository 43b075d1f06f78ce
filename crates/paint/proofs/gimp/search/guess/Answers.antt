-- `guess` answers one of the segments. The invariant: what is left lies among them. Assumes nothing.
use Prim.Native.Nat.{◌/◌}
use native.Mathlib.Omega.{arith}
use Rattle.paint.proofs.gimp.Guessing.{passed_over}
use Rattle.paint.proofs.gimp.search.guess.Goals as goal

pub loop-left-init : goal.loop-left-init
loop-left-init c = (omega arith, omega arith)

pub overflow_add-base-in-loop-left-3 : goal.overflow_add-base-in-loop-left-3
overflow_add-base-in-loop-left-3 c = omega (arith, c.past-a.ensures, c.past-b.ensures)

pub overflow_add-base-in-loop-left-4 : goal.overflow_add-base-in-loop-left-4
overflow_add-base-in-loop-left-4 c = omega (arith, c.past-a.ensures, c.past-b.ensures, c.past-c.ensures)

pub overflow_mul-base : goal.overflow_mul-base
overflow_mul-base c = omega (arith, passed_over (c.loop-left.left / 4) _ _ _ c.past-a.ensures c.past-b.ensures c.past-c.ensures)

pub overflow_add-base-in-loop-left-5 : goal.overflow_add-base-in-loop-left-5
overflow_add-base-in-loop-left-5 c = omega (arith, passed_over (c.loop-left.left / 4) _ _ _ c.past-a.ensures c.past-b.ensures c.past-c.ensures)

pub loop-left-preserved : goal.loop-left-preserved
loop-left-preserved c = let w = passed_over (c.loop-left.left / 4) _ _ _ c.past-a.ensures c.past-b.ensures c.past-c.ensures in (omega arith, omega arith)

pub overflow_add-result : goal.overflow_add-result
overflow_add-result c = omega (arith, c.past.ensures)

pub overflow_add-result-then-left-gt2 : goal.overflow_add-result-then-left-gt2
overflow_add-result-then-left-gt2 c = omega (arith, c.past.ensures, c.past-then-left-gt2.ensures)

pub returns-then-left-gt2 : goal.returns-then-left-gt2
returns-then-left-gt2 c = omega (arith, c.past.ensures, c.past-then-left-gt2.ensures)

pub overflow_add-result-then-left-gt1 : goal.overflow_add-result-then-left-gt1
overflow_add-result-then-left-gt1 c = omega (arith, c.past-then-left-gt1.ensures)

pub returns-then-left-gt1 : goal.returns-then-left-gt1
returns-then-left-gt1 c = omega (arith, c.past-then-left-gt1.ensures)
