-- `decimal::digits` meets its contract. The loop's invariant: the digits so far make value, which is less than 10 for each byte so far. Assumes nothing.
use Rattle.decimal.proofs.Place.{Held}
use Rattle.decimal.proofs.digits.Given as goal

abbrev pub invariant-loop-i : goal.invariant-loop-i
invariant-loop-i l = Held l.s l.from l.before l.value l.five l.i
