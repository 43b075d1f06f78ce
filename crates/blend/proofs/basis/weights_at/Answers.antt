-- `basis::weights_at` meets its contract: by definition. Assumes nothing.
use mathlib.Core.Path.{refl}
use Rattle.blend.specs.Basis.{weights_of}
use Rattle.blend.proofs.basis.weights_at.Goals as goal

pub returns : goal.returns
unfolding weights_of
returns c = refl
