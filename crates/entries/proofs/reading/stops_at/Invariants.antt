-- `stops_at` meets its contract: line by line, the stops taken and those left are the stops of the lines. Assumes nothing.
use lib.ListN.{length, drop}
use Rattle.text.specs.Text.{lines}
use Rattle.entries.proofs.Inputs.{Taken}
use Rattle.entries.proofs.reading.stops_at.Given as goal

abbrev pub invariant-loop-at : goal.invariant-loop-at
invariant-loop-at l = Taken l.s l.from l.initial.positions l.positions l.initial.channels l.channels l.n l.at

abbrev pub decreases-loop-at : goal.decreases-loop-at
decreases-loop-at l = length (lines (drop l.at l.s))
