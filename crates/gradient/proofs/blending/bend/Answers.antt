-- `blending::bend` meets its contract: by the blending, and what the factors ensure. Assumes nothing.
use Rattle.gradient.proofs.GimpLaws.{bent-increasing, bent-decreasing, bent_not}
use Rattle.gradient.proofs.blending.bend.Goals as goal

pub returns-then-blending-eq-SPHERICAL_INCREASING : goal.returns-then-blending-eq-SPHERICAL_INCREASING
returns-then-blending-eq-SPHERICAL_INCREASING c = let a = c.args in bent-increasing a.blending a.f c.if-blending-eq-SPHERICAL_INCREASING.true c.spherical_increasing.ensures

pub returns-then-blending-eq-SPHERICAL_DECREASING : goal.returns-then-blending-eq-SPHERICAL_DECREASING
returns-then-blending-eq-SPHERICAL_DECREASING c = let a = c.args in bent-decreasing a.blending a.f c.if-blending-eq-SPHERICAL_INCREASING.false c.if-blending-eq-SPHERICAL_DECREASING.true c.spherical_decreasing.ensures

pub returns : goal.returns
returns c = let a = c.args in bent_not a.blending a.f c.if-blending-eq-SPHERICAL_INCREASING.false c.if-blending-eq-SPHERICAL_DECREASING.false
