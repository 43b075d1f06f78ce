-- `paint_held` meets its contract. The invariant: where it goes on, point i lies in the segment and its place is known; and an output that had the colours up to the start now has those up to i. Assumes nothing.
use mathlib.Core.Path.{◌≡◌}
use mathlib.Core.Bool.{true, false}
use mathlib.Core.List.{List, ◌++◌}
use Prim.Native.Nat.{◌-◌, ◌*◌, ◌≤◌, ◌<◌}
use lib.ListN.{length, take, drop, get_or}
use lib.Ieee.{Float, nan}
use Rattle.gradient.specs.Gimp.{along, gimp_colour}
use Rattle.blend.specs.Channels.{colours_of}
use Rattle.paint.proofs.gimp.Hits.{Lies}
use Rattle.paint.proofs.gimp.paint_held.Given as goal

abbrev pub invariant-loop-on : goal.invariant-loop-on
invariant-loop-on g l =
    (l.i ≤ length l.ts)
    × (length l.out ≡ length l.initial.out)
    × (l.on ≡ true → Lies l.positions l.ts l.s l.i)
    × (l.on ≡ true → l.start ≤ l.i)
    × (l.on ≡ true → l.place ≡ along l.g.left l.g.right (get_or l.ts l.i nan))
    × (l.on ≡ false → l.start < l.i)
    × ((o : List Float) → 4 * length l.ts ≤ length o → l.initial.out ≡ colours_of (gimp_colour l.positions l.channels l.codes) (take l.start l.ts) ++ drop (4 * l.start) o → l.out ≡ colours_of (gimp_colour l.positions l.channels l.codes) (take l.i l.ts) ++ drop (4 * l.i) o)

abbrev pub decreases-loop-on : goal.decreases-loop-on
decreases-loop-on g l = length l.ts - l.i
