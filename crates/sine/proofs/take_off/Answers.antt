-- `take_off` meets its contract: the product fits, and no more is taken off than there is. Assumes nothing.
use native.Mathlib.Omega.{arith}
use Rattle.sine.proofs.Summed.{product_most, part_most}
use Rattle.sine.proofs.take_off.Goals as goal

pub overflow_mul-result : goal.overflow_mul-result
overflow_mul-result c = let m = product_most c.args.p c.args.z (omega arith) c.requires.2 in record { fits = omega arith }

pub overflow_sub-result : goal.overflow_sub-result
overflow_sub-result c = let m = part_most c.args.p c.args.z c.requires.2 in omega arith
