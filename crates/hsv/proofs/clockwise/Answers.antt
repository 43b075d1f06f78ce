-- `clockwise` meets its contract: what the calls ensure, put together. Assumes nothing.
use Rattle.hsv.specs.Circle.{down_hue}
use Rattle.hsv.specs.Mix.{clockwise}
use Rattle.hsv.proofs.Steps.{mixed_by_lem}
use Rattle.hsv.proofs.clockwise.Goals as goal

pub returns : goal.returns
unfolding clockwise
returns c = mixed_by_lem down_hue c.args.t c.hsva_of-p.ensures c.hsva_of-q.ensures c.clockwise_hue.ensures c.mixed_at.ensures
