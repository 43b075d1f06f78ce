-- `guess` answers one of the segments. The invariant: what is left lies among them. Assumes nothing.
use Prim.Native.Nat.{◌+◌, ◌≤◌}
use Rattle.gradient.specs.Gimp.{segments}
use Rattle.paint.proofs.gimp.search.guess.Given as goal

abbrev pub invariant-loop-left : goal.invariant-loop-left
invariant-loop-left l = (1 ≤ l.left) × (l.base + l.left ≤ segments l.positions)

abbrev pub decreases-loop-left : goal.decreases-loop-left
decreases-loop-left l = l.left
