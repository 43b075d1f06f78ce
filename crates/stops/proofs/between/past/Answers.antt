-- `stops::past` meets its contract: by definition. Assumes nothing.
use mathlib.Core.Path.{refl}
use Rattle.stops.specs.Pair.{beyond}
use Rattle.stops.proofs.between.past.Goals as goal

pub returns : goal.returns
unfolding beyond
returns c = refl
