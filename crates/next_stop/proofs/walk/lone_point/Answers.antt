-- `lone_point` meets its contract: the colour is the ramp's, whichever pair is tried. Assumes nothing.
use Rattle.sampling.proofs.Nearness.{near_point}
use Rattle.next_stop.proofs.walk.lone_point.Goals as goal

pub returns : goal.returns
returns c = near_point _ c.requires _ _ _ c.evaluate.ensures
