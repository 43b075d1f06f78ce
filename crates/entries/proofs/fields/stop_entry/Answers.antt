-- `stop_entry` meets its contract: a row of 5 makes the entry, and no other. Assumes nothing.
use Rattle.entries.proofs.Rows.{stop_not, stop_is}
use Rattle.entries.proofs.fields.stop_entry.Goals as goal

pub returns-then-row-ne5 : goal.returns-then-row-ne5
returns-then-row-ne5 c = stop_not c.args.l.now c.args.from c.requires c.row_at-row.ensures c.if-row-ne5.true

pub returns : goal.returns
returns c = stop_is c.args.l.now c.args.from c.requires c.row_at-row.ensures c.if-row-ne5.false
