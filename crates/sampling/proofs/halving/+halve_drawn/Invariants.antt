-- The measure of `halve_drawn`: what is left of the depth.
use Rattle.sampling.proofs.halving.+halve_drawn.Given as goal

abbrev pub decreases-halve_drawn : goal.decreases-halve_drawn
decreases-halve_drawn l = l.left
