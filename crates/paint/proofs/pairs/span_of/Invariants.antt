-- `pairs::span_of` meets its contract. The invariant: a power of two that is no more than the last index. Assumes nothing.
use Prim.Native.Nat.{◌-◌, ◌≤◌}
use Rattle.paint.proofs.Searching.{Power}
use Rattle.paint.proofs.pairs.span_of.Given as goal

abbrev pub invariant-loop-size : goal.invariant-loop-size
invariant-loop-size l = (1 ≤ l.size) × (l.size ≤ l.n - 1) × Power l.size

abbrev pub decreases-loop-size : goal.decreases-loop-size
decreases-loop-size l = l.n - 1 - l.size
