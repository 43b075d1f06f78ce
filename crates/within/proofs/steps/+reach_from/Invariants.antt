-- The measure of `reach_from`: how often r may still be doubled.
use Rattle.within.proofs.steps.+reach_from.Given as goal

abbrev pub decreases-reach_from : goal.decreases-reach_from
decreases-reach_from l = l.k
