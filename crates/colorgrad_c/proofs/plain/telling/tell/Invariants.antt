-- `tell` meets its contract: the first i are told. Assumes nothing.
use mathlib.Core.Path.{◌≡◌}
use lib.ListN.{take}
use Rattle.colorgrad_c.specs.plain.Telling.{telling}
use Rattle.colorgrad_c.proofs.plain.telling.tell.Given as goal

abbrev pub invariant-loop-i : goal.invariant-loop-i
invariant-loop-i g l = l.told ≡ telling (take l.i l.items) l.initial.told
