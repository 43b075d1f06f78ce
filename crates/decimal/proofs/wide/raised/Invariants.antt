-- `decimal::wide::raised` meets its contract. The loop's invariant: d is den doubled up times. Assumes nothing.
use mathlib.Core.Path.{◌≡◌}
use Prim.Native.Nat.{◌-◌, ◌*◌, ◌^◌, ◌≤◌, ◌<◌}
use Rattle.decimal.specs.inner.Wide.{word, value_of}
use Rattle.decimal.proofs.wide.raised.Given as goal

abbrev pub invariant-loop-num : goal.invariant-loop-num
invariant-loop-num l = (value_of l.d ≡ value_of l.initial.d * 2 ^ l.up) × ((l.d.hi < 2 * word) × (l.up ≤ 180))

abbrev pub decreases-loop-num : goal.decreases-loop-num
decreases-loop-num l = 180 - l.up
