-- `gimp::are_carried` meets its contract. The loop's invariant: what is asked of the segments left is what is asked of all. Assumes nothing.
use mathlib.Core.Path.{◌≡◌}
use Prim.Native.Nat.{◌-◌}
use Rattle.gradient.specs.Gimp.{all_carried}
use Rattle.gradient.proofs.gimp.are_carried.Given as goal

abbrev pub invariant-loop-i : goal.invariant-loop-i
invariant-loop-i l = all_carried l.kind (l.n - l.i) l.i l.positions l.codes ≡ all_carried l.kind l.n 0 l.positions l.codes
