-- `put_rows` meets its contract: the lines put and those left are all the lines. Assumes nothing.
use mathlib.Core.Path.{◌≡◌}
use lib.ListN.{length}
use Rattle.ggr_writing.proofs.Texts.{Rowed}
use Rattle.ggr_writing.proofs.lines.put_rows.Given as goal

abbrev pub invariant-loop-i : goal.invariant-loop-i
invariant-loop-i l = (length l.out ≡ length l.initial.out) × Rowed l.initial.out l.out l.at l.next l.n l.i l.positions l.channels
