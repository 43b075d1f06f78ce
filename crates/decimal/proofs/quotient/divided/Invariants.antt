-- `decimal::quotient::divided` meets its contract. The loop's invariant: num * 2 ^ down is m times den and the rest. Assumes nothing.
use mathlib.Core.Path.{◌≡◌}
use Prim.Native.Nat.{◌+◌, ◌-◌, ◌*◌, ◌^◌, ◌≤◌, ◌<◌}
use Rattle.decimal.proofs.quotient.divided.Given as goal

abbrev pub invariant-loop-m : goal.invariant-loop-m
invariant-loop-m l = (l.num * 2 ^ l.down ≡ l.m * l.den + l.rest) × ((l.rest < l.den) × ((l.m < 16777216) × (l.down ≤ 24)))

abbrev pub decreases-loop-m : goal.decreases-loop-m
decreases-loop-m l = 24 - l.down
