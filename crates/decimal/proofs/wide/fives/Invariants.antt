-- `decimal::wide::fives` meets its contract. The loop's invariant: w is d times 5 for each turn. Assumes nothing.
use mathlib.Core.Path.{◌≡◌}
use Prim.Native.Nat.{◌*◌, ◌^◌}
use Rattle.decimal.specs.inner.Wide.{value_of}
use Rattle.decimal.proofs.wide.fives.Given as goal

abbrev pub invariant-loop : goal.invariant-loop
invariant-loop l = value_of l.w ≡ l.d * 5 ^ l.counter
