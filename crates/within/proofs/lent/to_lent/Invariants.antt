-- `to_lent` meets its contract: what is sought from the start is what is left to seek. Assumes nothing.
use Rattle.within.proofs.Lenting.{Scanning}
use Rattle.within.proofs.lent.to_lent.Given as goal

abbrev pub invariant-loop-i : goal.invariant-loop-i
invariant-loop-i l = Scanning l.marks l.from l.count l.r l.i l.left
