-- `circle::clockwise_hue` meets its contract: the mirror of the way up. Assumes nothing.
use mathlib.Core.Path.{ap}
use lib.Ieee.{neg}
use Rattle.hsv.specs.Circle.{down_hue}
use Rattle.hsv.proofs.circle.clockwise_hue.Goals as goal

pub returns : goal.returns
unfolding down_hue
returns c = ap neg c.way.ensures
