-- `paint_catmull` meets its contract. The invariant: the colours of the first i points, the rest as it was, and the segment of the pair. Assumes nothing.
use mathlib.Core.Path.{◌≡◌}
use mathlib.Core.List.{◌++◌}
use Prim.Native.Nat.{◌*◌, ◌≤◌}
use lib.ListN.{length, take, drop}
use Rattle.stops.specs.Near.{segment_for}
use Rattle.stops.specs.declared.Kind.TheVariants.{CatmullRom}
use Rattle.blend.specs.Channels.{colours_of}
use Rattle.paint.specs.inner.Steps.{stop_colour}
use Rattle.paint.proofs.paint_catmull.Given as goal

abbrev pub invariant-loop-i : goal.invariant-loop-i
invariant-loop-i l = (l.i ≤ length l.ts) × (length l.out ≡ length l.initial.out) × (l.out ≡ colours_of (stop_colour CatmullRom l.positions l.channels) (take l.i l.ts) ++ drop (4 * l.i) l.initial.out) × (l.s ≡ segment_for l.channels (length l.positions) l.k)
