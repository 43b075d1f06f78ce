-- `decimal::tally::stop_of` meets its contract. Assumes nothing.
use native.Mathlib.Omega.{arith}
use Rattle.decimal.proofs.tally.stop_of.Goals as goal

pub returns-then-count-ge-MOST_SIGNIFICANT : goal.returns-then-count-ge-MOST_SIGNIFICANT
returns-then-count-ge-MOST_SIGNIFICANT c = record { above = omega arith; within = omega arith; few = λ l. omega arith; all = λ l. omega arith }

pub returns-then-end-from : goal.returns-then-end-from
returns-then-end-from c = record { above = omega arith; within = omega arith; few = λ l. omega arith; all = λ l. omega arith }

pub returns : goal.returns
returns c = record { above = omega arith; within = omega arith; few = λ l. omega arith; all = λ l. omega arith }
