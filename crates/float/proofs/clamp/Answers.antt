-- `float::clamp` meets its contract: the kit's clamp makes the definition's tests. Assumes nothing.
use Rattle.float.specs.Number.{clamp_of}
use Rattle.float.proofs.clamp.Goals as goal

pub returns : goal.returns
unfolding clamp_of
returns c = c.clamp.ensures.value
