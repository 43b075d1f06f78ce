-- `rules::is_steady` meets its contract. The loop's invariant: what is asked of the positions left is what is asked of all. Assumes nothing.
use mathlib.Core.Path.{◌≡◌}
use mathlib.Core.Bool.{true}
use lib.ListN.{drop}
use lib.Ieee.{inf}
use Rattle.stops.specs.Stops.{steady}
use Rattle.stops.proofs.rules.is_steady.Given as goal

abbrev pub invariant-loop-p : goal.invariant-loop-p
invariant-loop-p l = steady l.max l.prev (drop l.p-index l.positions) ≡ steady l.max (inf true) l.positions
