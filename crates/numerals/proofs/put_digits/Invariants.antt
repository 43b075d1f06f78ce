-- `put_digits` meets its contract. The loop's invariant: from the place i on the digits are there. Assumes nothing.
use Rattle.numerals.proofs.Put.{Putting}
use Rattle.numerals.proofs.put_digits.Given as goal

abbrev pub invariant-loop-i : goal.invariant-loop-i
invariant-loop-i l = Putting l.initial.out l.at l.w l.x l.out l.i l.y
