-- `thin_points` meets its contract: what the whole list comes to stays the same from place to place. The measure is what is left of the list. Assumes nothing.
use Prim.Native.Nat.{◌-◌}
use Rattle.sampling.specs.inner.Steps.{Carrying}
use lib.ListN.{length}
use Rattle.gradient.specs.Lent.{lent_ramp}
use Rattle.gradient.specs.Ramp.{colour_of}
use Rattle.difference.specs.Difference.{exceeds}
use Rattle.places.specs.Places.{list_of, points_before}
use Rattle.thinning.specs.Walk.{run}
use Rattle.linearize.proofs.Going.{Going}
use Rattle.linearize.proofs.listing.thin_points.Given as goal

abbrev pub invariant-loop-place : goal.invariant-loop-place
invariant-loop-place l =
    Going (colour_of (lent_ramp l.ramp)) (exceeds l.cutoff) l.room l.rows l.counts l.max (run l.initial.s l.initial.places l.initial.colours) l.places l.colours l.s l.place l.x × Carrying (lent_ramp l.ramp) l.x.pair l.drawn

abbrev pub decreases-loop-place : goal.decreases-loop-place
decreases-loop-place l =
    length (list_of l.rows l.counts l.max) - points_before l.counts l.place
