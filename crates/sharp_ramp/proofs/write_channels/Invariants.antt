-- `sharp::write_channels` meets its contract. The loop's invariant: the channels of the bands before i are stored, and what lies past them is as it was. Assumes nothing.
use mathlib.Core.Path.{◌≡◌}
use mathlib.Core.List.{◌++◌}
use Prim.Native.Nat.{◌*◌}
use lib.ListN.{drop}
use Rattle.sharp_ramp.specs.Sharp.{listed, band_channel}
use Rattle.sharp_ramp.proofs.write_channels.Given as goal

abbrev pub invariant-loop-i : goal.invariant-loop-i
invariant-loop-i l = l.channels ≡ listed (band_channel l.colours) (8 * l.i) ++ drop (8 * l.i) l.initial.channels
