-- `span_end` meets its contract: what is left of the run is added to the place reached. Assumes nothing.
use Prim.Native.Nat.{◌+◌}
use mathlib.Core.Path.{◌≡◌}
use lib.ListN.{drop}
use Rattle.text.specs.Places.{in_class, span}
use Rattle.text.proofs.span_end.Given as goal

abbrev pub invariant-loop-i : goal.invariant-loop-i
invariant-loop-i l = l.i + span (in_class l.k) (drop l.i l.s) ≡ l.from + span (in_class l.k) (drop l.from l.s)
