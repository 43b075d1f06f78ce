-- `sharp::write_positions` meets its contract. The loop's invariant: the stops before j are stored, and what lies past them is as it was. Assumes nothing.
use mathlib.Core.Path.{◌≡◌}
use mathlib.Core.List.{◌++◌}
use lib.ListN.{drop}
use Rattle.sharp_ramp.specs.Sharp.{band_at, listed}
use Rattle.sharp_ramp.proofs.write_positions.Given as goal

abbrev pub invariant-loop-j : goal.invariant-loop-j
invariant-loop-j l = l.positions ≡ listed (band_at l.min l.max l.inset l.n) l.j ++ drop l.j l.initial.positions
