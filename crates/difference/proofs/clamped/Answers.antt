-- `clamped` meets its contract: each channel is clamped. Assumes nothing.
use Rattle.difference.specs.Difference.{clamped_of}
use Rattle.difference.proofs.clamped.Goals as goal

pub returns : goal.returns
unfolding clamped_of
returns c = cc
