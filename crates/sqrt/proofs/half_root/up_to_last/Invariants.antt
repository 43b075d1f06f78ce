-- `sqrt::half_root::up_to_last` meets its contract. The loop keeps that the test fails at b. Assumes nothing.
use mathlib.Core.Bool.{not}
use Prim.Native.Nat.{◌-◌, ◌≤◌}
use lib.Dec.{T}
use Rattle.sqrt.specs.Cutoff.{above}
use Rattle.float.proofs.PatternOrder.{at}
use Rattle.sqrt.proofs.half_root.up_to_last.Given as goal

abbrev pub invariant-loop-b : goal.invariant-loop-b
invariant-loop-b l = (l.b ≤ 2139095040) × T (not (above l.t (at l.b)))

abbrev pub decreases-loop-b : goal.decreases-loop-b
decreases-loop-b l = 2139095040 - l.b
