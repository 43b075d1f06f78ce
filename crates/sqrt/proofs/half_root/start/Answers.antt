-- `sqrt::half_root::start` is safe, and its result is at most the infinity's pattern: bits are taken of no NaN. Assumes nothing.
use Rattle.float.proofs.Patterns.{is_number}
use Rattle.sqrt.proofs.half_root.start.Goals as goal

pub float_to_bits-square : goal.float_to_bits-square
float_to_bits-square c = is_number _ c.if-square.false
