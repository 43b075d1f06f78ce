-- `gimp::find_segment` meets its contract. The loop's invariant: the search of the remaining range is the whole search. Assumes nothing.
use mathlib.Core.Path.{◌≡◌}
use Prim.Native.Nat.{◌-◌, ◌≤◌}
use Rattle.gradient.specs.Gimp.{segments, search, segment_found}
use Rattle.gradient.proofs.gimp.find_segment.Given as goal

abbrev pub invariant-loop-low : goal.invariant-loop-low
invariant-loop-low l = (l.low ≤ l.high) × (l.high ≤ segments l.positions) × (search (l.high - l.low) l.positions l.t l.tried l.low l.high ≡ segment_found l.positions l.t)

abbrev pub decreases-loop-low : goal.decreases-loop-low
decreases-loop-low l = l.high - l.low
