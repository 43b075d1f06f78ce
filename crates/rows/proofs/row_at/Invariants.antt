-- `row_at` meets its contract: part by part, the numbers so far and the parts left make the row. Assumes nothing.
use Prim.Native.Nat.{◌+◌, ◌-◌}
use lib.ListN.{length}
use Rattle.rows.proofs.Numbers.{Sofar}
use Rattle.rows.proofs.row_at.Given as goal

abbrev pub invariant-loop-by : goal.invariant-loop-by
invariant-loop-by l = Sofar l.notation l.by l.s l.at l.d l.n l.i

abbrev pub decreases-loop-by : goal.decreases-loop-by
decreases-loop-by l = length l.s + 1 - l.i
