-- `float::above` meets its contract, by the sign: the next pattern up of what is above 0, the next down of what is below. Assumes nothing.
use mathlib.Core.Path.{sym, subst}
use native.Mathlib.Omega.{arith}
use lib.Dec.{T}
use lib.Ieee.{binary32, fits, of_bits, div}
use Rattle.float.proofs.Patterns.{number_pattern}
use Rattle.float.proofs.Neighbours.{plus_below, next_pattern, above_plus, above_infinity, minus_least, last_pattern, above_minus, above_zero, above_nan}
use Rattle.float.proofs.above.Goals as goal
use Rattle.float.proofs.above.Lts
use Rattle.float.proofs.above.Reads

abbrev At-Start : Type 0
At-Start = Lts.Start Reads.Pre Reads.Post

held : (c : At-Start) → T (fits binary32 c.args.x)
held c = subst T (sym c.well_formed.0.1) tt

pub returns-then-bits-eq-INFINITY : goal.returns-then-bits-eq-INFINITY
unfolding of_bits div
returns-then-bits-eq-INFINITY c = above_infinity _ c.if-x.true c.if-bits-eq-INFINITY.true

pub overflow_add-result : goal.overflow_add-result
overflow_add-result c = record { fits = omega (arith, plus_below _ c.if-x.true (held c.before.before)) }

pub float_from_bits-result : goal.float_from_bits-result
float_from_bits-result c = next_pattern _ c.if-x.true (held c.before.before) c.if-bits-eq-INFINITY.false

pub returns-else-bits-eq-INFINITY : goal.returns-else-bits-eq-INFINITY
returns-else-bits-eq-INFINITY c = above_plus _ c.if-x.true

pub overflow_sub-result : goal.overflow_sub-result
overflow_sub-result c = omega (arith, minus_least _ c.if-x-2.true (held c.before.before))

pub overflow_sub-result-then-x-2 : goal.overflow_sub-result-then-x-2
overflow_sub-result-then-x-2 c = omega (arith, minus_least _ c.if-x-2.true (held c.before.before))

pub float_from_bits-result-then-x-2 : goal.float_from_bits-result-then-x-2
float_from_bits-result-then-x-2 c = last_pattern _ c.if-x-2.true (held c.before.before)

pub returns-then-x-2 : goal.returns-then-x-2
returns-then-x-2 c = above_minus _ c.if-x-2.true (held c.before.before)

pub float_from_bits-result-then-x-3 : goal.float_from_bits-result-then-x-3
float_from_bits-result-then-x-3 c = number_pattern 1 (omega arith)

pub returns-then-x-3 : goal.returns-then-x-3
returns-then-x-3 c = above_zero _ c.if-x-3.true

pub returns-else-x-3 : goal.returns-else-x-3
unfolding of_bits div
returns-else-x-3 c = above_nan _ c.if-x.false c.if-x-2.false c.if-x-3.false
