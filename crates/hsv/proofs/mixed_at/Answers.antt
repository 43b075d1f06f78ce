-- `mixed_at` meets its contract: by definition, and what `rgba_of` ensures. Assumes nothing.
use Rattle.hsv.specs.Mix.{mixed_at}
use Rattle.hsv.proofs.mixed_at.Goals as goal

pub returns : goal.returns
unfolding mixed_at
returns c = c.rgba_of.ensures
