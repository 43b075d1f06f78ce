-- `never_falls` meets its contract: what is left rises from the position before as the whole does. Assumes nothing.
use mathlib.Core.Path.{◌≡◌}
use mathlib.Core.Bool.{true}
use lib.ListN.{drop}
use lib.Ieee.{inf}
use Rattle.ggr_writing.specs.File.{rises}
use Rattle.ggr_writing.proofs.never_falls.Given as goal

abbrev pub invariant-loop-p : goal.invariant-loop-p
invariant-loop-p l = rises l.prev (drop l.p-index l.positions) ≡ rises (inf true) l.positions
