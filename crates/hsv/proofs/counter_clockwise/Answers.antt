-- `counter_clockwise` meets its contract: what the calls ensure, put together. Assumes nothing.
use Rattle.hsv.specs.Circle.{up_hue}
use Rattle.hsv.specs.Mix.{counter_clockwise}
use Rattle.hsv.proofs.Steps.{mixed_by_lem}
use Rattle.hsv.proofs.counter_clockwise.Goals as goal

pub returns : goal.returns
unfolding counter_clockwise
returns c = mixed_by_lem up_hue c.args.t c.hsva_of-p.ensures c.hsva_of-q.ensures c.counter_clockwise_hue.ensures c.mixed_at.ensures
