-- `is_close` meets its contract: the two colours, and how far apart they are. Assumes nothing.
use Rattle.judge.proofs.Answering.{close_is}
use Rattle.judge.proofs.points.is_close.Goals as goal

pub returns : goal.returns
returns c = close_is _ _ _ _ c.colour_at-x.ensures c.colour_at-y.ensures c.distance.ensures
