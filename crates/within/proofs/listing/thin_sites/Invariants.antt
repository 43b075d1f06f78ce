-- `thin_sites` meets its contract: what the whole list comes to stays the same from stop to stop. The measure is how many points are left. Assumes nothing.
use Prim.Native.Nat.{◌+◌, ◌-◌}
use Rattle.gradient.specs.Lent.{lent_ramp}
use Rattle.gradient.specs.Ramp.{colour_of}
use Rattle.within.specs.inner.Weighing.{near_by}
use Rattle.within.proofs.Emitting.{Going}
use Rattle.within.proofs.listing.thin_sites.Given as goal

abbrev pub invariant-loop-i : goal.invariant-loop-i
invariant-loop-i l =
    Going (colour_of (lent_ramp l.ramp)) (near_by l.offs) l.end.t l.room l.count l.ts l.marks l.initial.s l.initial.places l.initial.colours l.i l.s l.w l.block l.places l.colours

abbrev pub decreases-loop-i : goal.decreases-loop-i
decreases-loop-i l = l.count + 1 - l.i
