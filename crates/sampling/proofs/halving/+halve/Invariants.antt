-- The measure of `halve`: what is left of the depth.
use Rattle.sampling.proofs.halving.+halve.Given as goal

abbrev pub decreases-halve : goal.decreases-halve
decreases-halve l = l.left
