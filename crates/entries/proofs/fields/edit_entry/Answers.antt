-- `edit_entry` meets its contract: an index, and a row of four. Assumes nothing.
use borrow.Author.Rules.{rules}
use mathlib.Core.Path.{sym, ◌∙◌}
use Prim.Native.Nat.{◌+◌}
use Rattle.rows.proofs.Fields.{field_within}
use Rattle.entries.proofs.Rows.{change_not, change_is, edit_alone, edit_long, edit_bad, edit_row}
use Rattle.entries.proofs.fields.edit_entry.Goals as goal

pub returns-then-l-end : goal.returns-then-l-end
returns-then-l-end c = edit_alone c.args.l.now c.args.from c.span_end-end.result c.requires c.span_end-end.ensures c.if-l-end.true

pub returns-then-end-from-gt-INDEX_DIGITS : goal.returns-then-end-from-gt-INDEX_DIGITS
returns-then-end-from-gt-INDEX_DIGITS c = edit_long c.args.l.now c.args.from c.span_end-end.result c.requires c.span_end-end.ensures (search rules) c.if-end-from-gt-INDEX_DIGITS.true

pub slice_bounds-number_of-end : goal.slice_bounds-number_of-end
slice_bounds-number_of-end c = field_within c.args.l.now c.args.from c.span_end-end.result c.requires c.span_end-end.ensures

pub returns-in_default : goal.returns-in_default
returns-in_default c = edit_bad c.args.l.now c.args.from c.span_end-end.result c.requires c.span_end-end.ensures (search rules) (search rules) (sym c.number_of.ensures ∙ c.in_default.is)

pub returns-then-row-ne4 : goal.returns-then-row-ne4
returns-then-row-ne4 c = edit_row c.args.l.now c.args.from c.span_end-end.result c.requires c.span_end-end.ensures (search rules) (search rules) (sym c.number_of.ensures ∙ c.in-Some.is) (change_not c.args.l.now (c.span_end-end.result + 1) (search rules) c.row_at-row.ensures _ c.if-row-ne4.true)

pub returns : goal.returns
returns c = edit_row c.args.l.now c.args.from c.span_end-end.result c.requires c.span_end-end.ensures (search rules) (search rules) (sym c.number_of.ensures ∙ c.in-Some.is) (change_is c.args.l.now (c.span_end-end.result + 1) (search rules) c.row_at-row.ensures _ c.if-row-ne4.false)
