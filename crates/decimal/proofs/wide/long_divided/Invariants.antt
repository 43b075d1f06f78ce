-- `decimal::wide::long_divided` meets its contract. The loop's invariant: num * 2 ^ down is m times den and the rest. Assumes nothing.
use mathlib.Core.Path.{◌≡◌}
use Prim.Native.Nat.{ℕ, ◌+◌, ◌-◌, ◌*◌, ◌^◌, ◌≤◌, ◌<◌}
use Rattle.decimal.specs.inner.Wide.{value_of}
use Rattle.decimal.proofs.wide.long_divided.Given as goal

pub record Held (num den most m rest down : ℕ) : Type 0 where
  pub long : num * 2 ^ down ≡ m * den + rest
  pub less : rest < den
  pub hi : m < 16777216
  pub few : down ≤ most

abbrev pub invariant-loop-m : goal.invariant-loop-m
invariant-loop-m l = Held (value_of l.initial.rest) (value_of l.den) l.most l.m (value_of l.rest) l.down

abbrev pub decreases-loop-m : goal.decreases-loop-m
decreases-loop-m l = l.most - l.down
