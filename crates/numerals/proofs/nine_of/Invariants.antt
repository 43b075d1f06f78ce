-- `nine_of` meets its contract. The loop's invariant: a / den is m * 10 ^ k / 2 ^ shift. Assumes nothing.
use Prim.Native.Nat.{◌-◌}
use Rattle.numerals.proofs.Scale.{Scaling}
use Rattle.numerals.proofs.nine_of.Given as goal

abbrev pub invariant-loop-a : goal.invariant-loop-a
invariant-loop-a l = Scaling l.m l.shift l.a l.den l.k l.ten

abbrev pub decreases-loop-a : goal.decreases-loop-a
decreases-loop-a l = 15 - l.k
