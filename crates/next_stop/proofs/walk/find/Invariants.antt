-- `find` meets its contract: what is left of the list gives the same stop from place to place. The measure is what is left of the list. Assumes nothing.
use Prim.Native.Nat.{◌-◌}
use lib.ListN.{length}
use Rattle.gradient.specs.Lent.{lent_ramp}
use Rattle.gradient.specs.Ramp.{colour_of}
use Rattle.difference.specs.Difference.{exceeds}
use Rattle.places.specs.Places.{list_of, points_before}
use Rattle.next_stop.proofs.Walking.{Walking}
use Rattle.next_stop.proofs.walk.find.Given as goal

abbrev pub invariant-loop-place : goal.invariant-loop-place
invariant-loop-place l =
    Walking (colour_of (lent_ramp l.ramp)) (exceeds l.cutoff) l.rows l.counts l.max l.last l.initial.place l.place l.x l.tried

abbrev pub decreases-loop-place : goal.decreases-loop-place
decreases-loop-place l =
    length (list_of l.rows l.counts l.max) - points_before l.counts l.place
