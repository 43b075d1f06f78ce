-- `threshold_entry` meets its contract: a row of 1 makes the entry, and no other. Assumes nothing.
use Rattle.entries.proofs.Rows.{threshold_not, threshold_is}
use Rattle.entries.proofs.fields.threshold_entry.Goals as goal

pub returns-then-row-ne1 : goal.returns-then-row-ne1
returns-then-row-ne1 c = threshold_not c.args.l.now c.args.from c.requires c.row_at-row.ensures c.if-row-ne1.true

pub returns : goal.returns
returns c = threshold_is c.args.l.now c.args.from c.requires c.row_at-row.ensures c.if-row-ne1.false
