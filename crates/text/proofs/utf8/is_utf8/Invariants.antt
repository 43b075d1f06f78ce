-- `is_utf8` meets its contract: what is due after the bytes so far and those left is what is due at the end. Assumes nothing.
use mathlib.Core.Path.{◌≡◌}
use lib.ListN.{drop}
use Rattle.text.specs.Utf8.{nothing_due, due_at_end}
use Rattle.text.proofs.utf8.is_utf8.Given as goal

abbrev pub invariant-loop-b : goal.invariant-loop-b
invariant-loop-b l = due_at_end l.d (drop l.b-index l.s) ≡ due_at_end nothing_due l.s
