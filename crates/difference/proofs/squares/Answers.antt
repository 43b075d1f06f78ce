-- `squares` meets its contract: the same operations in the same order. Assumes nothing.
use mathlib.Core.Path.{refl}
use Rattle.difference.specs.Difference.{squares_of}
use Rattle.difference.proofs.squares.Goals as goal

pub returns : goal.returns
unfolding squares_of
returns c = refl
