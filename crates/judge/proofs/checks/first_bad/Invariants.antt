-- `first_bad` meets its contract: the first failing of the stops that are left is that of all. Assumes nothing.
use mathlib.Core.Path.{◌≡◌}
use Prim.Native.Nat.{◌-◌}
use lib.ListN.{length}
use Rattle.judge.specs.Lists.{offer_of, good_stop, first_failing, first_bad}
use Rattle.judge.proofs.checks.first_bad.Given as goal

abbrev pub invariant-loop-i : goal.invariant-loop-i
invariant-loop-i l = first_failing (good_stop l.positions l.channels) (length l.positions - l.i) l.i ≡ first_bad (offer_of l.positions l.channels)
