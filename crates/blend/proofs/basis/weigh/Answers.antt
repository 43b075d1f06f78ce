-- `basis::weigh` meets its contract: by definition. Assumes nothing.
use mathlib.Core.Path.{refl}
use Rattle.blend.specs.Basis.{weighted_sum}
use Rattle.blend.proofs.basis.weigh.Goals as goal

pub returns : goal.returns
unfolding weighted_sum
returns c = refl
