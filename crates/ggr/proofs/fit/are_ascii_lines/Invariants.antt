-- `are_ascii_lines` meets its contract: line by line, the lines left are as the whole. Assumes nothing.
use Rattle.ggr.proofs.Fitting.{Left}
use Rattle.ggr.proofs.fit.are_ascii_lines.Given as goal

abbrev pub invariant-loop : goal.invariant-loop
invariant-loop l = Left l.s l.from l.n l.at l.counter
