-- `line` meets its contract: the table never falls. Assumes nothing.
use Rattle.sine.proofs.Bent.{rises, on_line}
use Rattle.sine.proofs.line.Goals as goal

pub overflow_sub-high : goal.overflow_sub-high
overflow_sub-high c = rises c.args.i c.requires c.entry_at-low.ensures c.entry_at-high.ensures

pub returns : goal.returns
returns c =
    on_line c.args.i c.requires c.entry_at-low.ensures c.entry_at-high.ensures c.args.fraction c.from_whole-rise.ensures c.from_whole.ensures
