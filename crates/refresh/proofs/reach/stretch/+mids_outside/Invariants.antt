-- The measure of `mids_outside`: what is left of the depth.
use Rattle.refresh.proofs.reach.stretch.+mids_outside.Given as goal

abbrev pub decreases-mids_outside : goal.decreases-mids_outside
decreases-mids_outside l = l.left
