-- `fill` meets its contract: after i lines the outputs hold the items of i segments. Assumes nothing.
use lib.ListN.{drop}
use Rattle.float.specs.F32.{f0}
use Rattle.text.specs.Text.{lines}
use Rattle.segment.specs.Store.{store_of}
use Rattle.ggr.specs.File.{segment_lines}
use Rattle.ggr.proofs.Filling.{Going}
use Rattle.ggr.proofs.fill.fill.Given as goal

abbrev pub invariant-loop-i : goal.invariant-loop-i
invariant-loop-i l =
    Going (segment_lines l.rules l.fg l.bg l.n 4 f0 (lines (drop l.from l.s))) l.s l.rules l.fg l.bg l.n (store_of l.initial.p l.initial.c l.initial.k) (store_of l.p l.c l.k) l.at l.end l.i
