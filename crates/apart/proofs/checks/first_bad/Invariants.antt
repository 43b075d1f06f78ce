-- `first_bad` meets its contract: the first failing of the depths that are left is that of all. Assumes nothing.
use mathlib.Core.Path.{◌≡◌}
use Prim.Native.Nat.{◌-◌}
use lib.ListN.{length}
use Rattle.judge.specs.Lists.{first_failing}
use Rattle.apart.specs.Checks.{good_depth, first_bad_depth}
use Rattle.apart.proofs.checks.first_bad.Given as goal

abbrev pub invariant-loop-i : goal.invariant-loop-i
invariant-loop-i l = first_failing (good_depth l.min l.max l.depths) (length l.depths - l.i) l.i ≡ first_bad_depth l.min l.max l.depths
