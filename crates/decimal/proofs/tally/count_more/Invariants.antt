-- `decimal::tally::count_more` meets its contract: a zero is ten times the number, and any other digit is one too many. Assumes nothing.
use Prim.Native.Nat.{◌≤◌}
use Rattle.decimal.specs.inner.Counted.{Counting}
use Rattle.decimal.proofs.tally.count_more.Given as goal

abbrev pub invariant-loop-i : goal.invariant-loop-i
invariant-loop-i l = Counting l.s l.from l.value l.count l.zeros l.value l.c l.z l.i × (19 ≤ l.c)
