-- `shows_to` meets its contract: what is asked of all points is asked of those left, block by block. The measure is how many. Assumes nothing.
use mathlib.Core.Path.{◌≡◌}
use Prim.Native.Nat.{◌-◌, ◌≤◌}
use Rattle.gradient.specs.Lent.{lent_ramp}
use Rattle.gradient.specs.Ramp.{colour_of}
use Rattle.within.specs.inner.Weighing.{near_by, fair_from, all_from, ColoursInHand}
use Rattle.within.proofs.asking.shows_to.Given as goal

abbrev pub invariant-loop-i : goal.invariant-loop-i
invariant-loop-i l =
    (l.from ≤ l.i) × ((l.i ≤ l.to) × ((all_from (fair_from (colour_of (lent_ramp l.ramp)) (near_by l.offs) l.a.t l.b.t l.ts l.marks) l.from (l.to - l.from)
    ≡ all_from (fair_from (colour_of (lent_ramp l.ramp)) (near_by l.offs) l.a.t l.b.t l.ts l.marks) l.i (l.to - l.i))
    × ColoursInHand (colour_of (lent_ramp l.ramp)) l.ts l.v l.block))

abbrev pub decreases-loop-i : goal.decreases-loop-i
decreases-loop-i l = l.to - l.i
