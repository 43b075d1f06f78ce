-- `paint_stops` meets its contract. The invariant: the colours of the first i points, and the rest as it was. Any pair may be tried first. Assumes nothing.
use mathlib.Core.Path.{◌≡◌}
use mathlib.Core.List.{◌++◌}
use Prim.Native.Nat.{◌*◌, ◌≤◌}
use lib.ListN.{length, take, drop}
use Rattle.blend.specs.Channels.{colours_of}
use Rattle.paint.specs.inner.Steps.{stop_colour}
use Rattle.paint.proofs.paint_stops.Given as goal

abbrev pub invariant-loop-i : goal.invariant-loop-i
invariant-loop-i l = (l.i ≤ length l.ts) × (length l.out ≡ length l.initial.out) × (l.out ≡ colours_of (stop_colour l.kind l.positions l.channels) (take l.i l.ts) ++ drop (4 * l.i) l.initial.out)
