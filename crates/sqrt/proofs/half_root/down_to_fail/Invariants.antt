-- `sqrt::half_root::down_to_fail` meets its contract. The loop keeps the pattern at most the infinity's; it does not pass 0, where the test fails. Assumes nothing.
use Prim.Native.Nat.{◌≤◌}
use Rattle.sqrt.proofs.half_root.down_to_fail.Given as goal

abbrev pub invariant-loop-b : goal.invariant-loop-b
invariant-loop-b l = l.b ≤ 2139095040

abbrev pub decreases-loop-b : goal.decreases-loop-b
decreases-loop-b l = l.b
