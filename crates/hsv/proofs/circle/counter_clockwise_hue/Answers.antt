-- `circle::counter_clockwise_hue` meets its contract: it is the way up. Assumes nothing.
use Rattle.hsv.specs.Circle.{up_hue}
use Rattle.hsv.proofs.circle.counter_clockwise_hue.Goals as goal

pub returns : goal.returns
unfolding up_hue
returns c = c.way.ensures
