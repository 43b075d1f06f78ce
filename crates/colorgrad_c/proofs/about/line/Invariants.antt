-- `line` meets its contract: line k is line k - i from `at` on. Assumes nothing.
use Rattle.colorgrad_c.proofs.Messages.{Passed}
use Rattle.colorgrad_c.proofs.about.line.Given as goal

abbrev pub invariant-loop-i : goal.invariant-loop-i
invariant-loop-i l = Passed l.texts l.k l.at l._i
