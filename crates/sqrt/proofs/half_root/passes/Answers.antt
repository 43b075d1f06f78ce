-- `sqrt::half_root::passes` meets its contract, from what `root` ensures. Assumes nothing.
use native.Mathlib.Omega.{arith}
use Rattle.float.proofs.Patterns.{number_pattern}
use Rattle.sqrt.proofs.half_root.passes.Goals as goal

pub float_from_bits-b : goal.float_from_bits-b
float_from_bits-b c = number_pattern c.args.b (omega arith)
