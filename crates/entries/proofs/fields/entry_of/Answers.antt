-- `entry_of` meets its contract: a case for each word. Assumes nothing.
use mathlib.Core.Path.{sym, ◌∙◌}
use Rattle.entries.specs.Entries.{stop_tag, threshold_tag, edit_tag}
use Rattle.text.proofs.Bytes.{starts_long}
use Rattle.entries.proofs.Rows.{says_stop, says_linear, says_smoothstep, says_threshold, says_edit, says_nothing}
use Rattle.entries.proofs.fields.entry_of.Goals as goal

pub stop_entry-requires : goal.stop_entry-requires
stop_entry-requires c = starts_long stop_tag c.args.l.now (sym c.starts_with.ensures ∙ c.if-starts_with.true)

pub returns-then-starts_with : goal.returns-then-starts_with
returns-then-starts_with c = says_stop c.args.l.now (sym c.starts_with.ensures ∙ c.if-starts_with.true) c.stop_entry.ensures

pub returns-then-is_same : goal.returns-then-is_same
returns-then-is_same c = says_linear c.args.l.now (sym c.starts_with.ensures ∙ c.if-starts_with.false) (sym c.is_same.ensures ∙ c.if-is_same.true)

pub returns-then-is_same-2 : goal.returns-then-is_same-2
returns-then-is_same-2 c = says_smoothstep c.args.l.now (sym c.starts_with.ensures ∙ c.if-starts_with.false) (sym c.is_same.ensures ∙ c.if-is_same.false) (sym c.is_same-2.ensures ∙ c.if-is_same-2.true)

pub threshold_entry-requires : goal.threshold_entry-requires
threshold_entry-requires c =
    starts_long threshold_tag c.args.l.now (sym c.starts_with-2.ensures ∙ c.if-starts_with-2.true)

pub returns-then-starts_with-2 : goal.returns-then-starts_with-2
returns-then-starts_with-2 c = says_threshold c.args.l.now (sym c.starts_with.ensures ∙ c.if-starts_with.false) (sym c.is_same.ensures ∙ c.if-is_same.false) (sym c.is_same-2.ensures ∙ c.if-is_same-2.false) (sym c.starts_with-2.ensures ∙ c.if-starts_with-2.true) c.threshold_entry.ensures

pub edit_entry-requires : goal.edit_entry-requires
edit_entry-requires c =
    starts_long edit_tag c.args.l.now (sym c.starts_with-3.ensures ∙ c.if-starts_with-3.true)

pub returns-then-starts_with-3 : goal.returns-then-starts_with-3
returns-then-starts_with-3 c = says_edit c.args.l.now (sym c.starts_with.ensures ∙ c.if-starts_with.false) (sym c.is_same.ensures ∙ c.if-is_same.false) (sym c.is_same-2.ensures ∙ c.if-is_same-2.false) (sym c.starts_with-2.ensures ∙ c.if-starts_with-2.false) (sym c.starts_with-3.ensures ∙ c.if-starts_with-3.true) c.edit_entry.ensures

pub returns : goal.returns
returns c = says_nothing c.args.l.now (sym c.starts_with.ensures ∙ c.if-starts_with.false) (sym c.is_same.ensures ∙ c.if-is_same.false) (sym c.is_same-2.ensures ∙ c.if-is_same-2.false) (sym c.starts_with-2.ensures ∙ c.if-starts_with-2.false) (sym c.starts_with-3.ensures ∙ c.if-starts_with-3.false)
