-- `decimal::tally::count_first` meets its contract: each digit passed counts, and the number of 19 fits a word. Assumes nothing.
use mathlib.Core.Path.{◌≡◌}
use Prim.Native.Nat.{◌+◌}
use Rattle.decimal.specs.inner.Counted.{Counting}
use Rattle.decimal.proofs.tally.count_first.Given as goal

-- i has gone as far as the count
abbrev pub invariant-loop-i : goal.invariant-loop-i
invariant-loop-i l = Counting l.s l.from l.value l.count l.zeros l.v l.c l.zeros l.i × (l.c + l.from ≡ l.count + l.i)
