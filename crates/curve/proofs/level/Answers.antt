-- `level` meets its contract: the digits after the field of 1/2 are a number's. Assumes nothing.
use mathlib.Core.Path.{ap₂}
use native.Mathlib.Omega.{arith}
use Rattle.float.specs.F32.{◌⊕◌}
use Rattle.float.proofs.Patterns.{number_pattern}
use Rattle.curve.specs.Depth.{level_of}
use Rattle.curve.proofs.level.Goals as goal

pub float_from_bits-b : goal.float_from_bits-b
float_from_bits-b c = number_pattern _ (omega arith)

pub returns : goal.returns
unfolding level_of
returns c = ap₂ ◌⊕◌ c.from_whole.ensures c.part.ensures
