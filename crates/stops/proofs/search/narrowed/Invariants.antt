-- `stops::narrowed` meets its contract. The invariant: narrowing from here on gives the answer. The measure is what is left. Assumes nothing.
use mathlib.Core.Path.{◌≡◌}
use Prim.Native.Nat.{◌+◌, ◌-◌, ◌≤◌}
use lib.ListN.{length}
use Rattle.stops.specs.Place.{narrow}
use Rattle.stops.proofs.search.narrowed.Given as goal

abbrev pub invariant-loop-left : goal.invariant-loop-left
invariant-loop-left l = (l.base + l.left ≤ length l.positions - 1) × (narrow l.left l.positions l.t l.base l.left ≡ narrow (length l.positions) l.positions l.t 0 (length l.positions - 1))

abbrev pub decreases-loop-left : goal.decreases-loop-left
decreases-loop-left l = l.left
