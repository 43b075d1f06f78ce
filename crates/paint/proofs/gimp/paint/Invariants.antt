-- `paint` meets its contract. The invariant: the colours of the first i points, and the rest as it was. Assumes nothing.
use mathlib.Core.Path.{◌≡◌}
use mathlib.Core.List.{◌++◌}
use Prim.Native.Nat.{◌-◌, ◌*◌, ◌≤◌}
use lib.ListN.{length, take, drop}
use Rattle.gradient.specs.Gimp.{gimp_colour}
use Rattle.blend.specs.Channels.{colours_of}
use Rattle.paint.proofs.gimp.paint.Given as goal

abbrev pub invariant-loop-i : goal.invariant-loop-i
invariant-loop-i l = (l.i ≤ length l.ts) × (length l.out ≡ length l.initial.out) × (l.out ≡ colours_of (gimp_colour l.positions l.channels l.codes) (take l.i l.ts) ++ drop (4 * l.i) l.initial.out)

abbrev pub decreases-loop-i : goal.decreases-loop-i
decreases-loop-i l = length l.ts - l.i
