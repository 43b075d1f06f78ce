-- `tabbed_at` meets its contract: a field is the run of bytes that are no tab. Assumes nothing.
use borrow.Author.Rules.{rules}
use Rattle.rows.proofs.Fields.{field_within, tabbed_none, tabbed_found}
use Rattle.rows.proofs.tabbed_at.Goals as goal

pub returns-then-s-from : goal.returns-then-s-from
returns-then-s-from c = let a = c.args in tabbed_none a.s.now a.from c.if-s-from.true

pub overflow_add-result : goal.overflow_add-result
overflow_add-result c = let a = c.args in
    let h = field_within a.s.now a.from _ c.if-s-from.false c.span_end-end.ensures in
    search rules

pub returns : goal.returns
returns c = let a = c.args in
    tabbed_found a.s.now a.from _ c.if-s-from.false c.span_end-end.ensures
