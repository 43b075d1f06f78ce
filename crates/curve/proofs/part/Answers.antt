-- `part` meets its contract: the sum at s. Assumes nothing.
use Rattle.curve.specs.Depth.{part_of}
use Rattle.curve.proofs.part.Goals as goal

pub returns : goal.returns
unfolding part_of
returns c = c.series.ensures
