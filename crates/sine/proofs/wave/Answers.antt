-- `wave` meets its contract: 1 at the top of the table, else on the line from an entry to the next. Assumes nothing.
use Rattle.sine.proofs.Bent.{at_top, below_top, beside}
use Rattle.sine.proofs.wave.Goals as goal

pub returns-then-i-eq1024 : goal.returns-then-i-eq1024
returns-then-i-eq1024 c =
    at_top c.args.f c.clamp-c.ensures c.index-i.ensures c.if-i-eq1024.true

pub line-requires : goal.line-requires
line-requires c =
    below_top c.args.f c.clamp-c.ensures c.index-i.ensures c.if-i-eq1024.false

pub returns-else-i-eq1024 : goal.returns-else-i-eq1024
returns-else-i-eq1024 c =
    beside c.args.f c.clamp-c.ensures c.index-i.ensures c.if-i-eq1024.false c.from_whole.ensures c.line.ensures
