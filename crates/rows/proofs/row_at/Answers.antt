-- `row_at` meets its contract: part by part, the numbers so far and the parts left make the row. Assumes nothing.
use borrow.Author.Rules.{rules}
use borrow.Author.Tests.{not-true, not-false}
use native.Mathlib.Omega.{arith}
use mathlib.Core.Path.{sym, ◌∙◌}
use Rattle.rows.proofs.Numbers.{begun, kept, over, no_number, row_none, row_done}
use Rattle.rows.proofs.row_at.Goals as goal

pub loop-by-init : goal.loop-by-init
loop-by-init c = let a = c.args in begun a.notation a.by a.s.now a.at

pub returns-then-n-eq0 : goal.returns-then-n-eq0
returns-then-n-eq0 c = row_none c.loop-by.invariant c.field_at-f.ensures (not-true _ c.if-not-f.true) c.if-n-eq0.true c.no_row.ensures

pub returns-then-not-f : goal.returns-then-not-f
returns-then-not-f c = row_done c.loop-by.invariant c.field_at-f.ensures (not-true _ c.if-not-f.true) c.if-n-eq0.false

pub returns-then-n-ge15 : goal.returns-then-n-ge15
returns-then-n-ge15 c = over c.loop-by.invariant c.field_at-f.ensures (not-false _ c.if-not-f.false) c.if-n-ge15.true c.no_row-then-n-ge15.ensures

pub slice_bounds-token_of-count : goal.slice_bounds-token_of-count
slice_bounds-token_of-count c = omega (arith, c.field_at-f.ensures.order (not-false _ c.if-not-f.false))

pub slice_bounds-token_of-start : goal.slice_bounds-token_of-start
slice_bounds-token_of-start c = c.field_at-f.ensures.order (not-false _ c.if-not-f.false)

pub slice_bounds-token_of-end : goal.slice_bounds-token_of-end
slice_bounds-token_of-end c = omega (arith, c.field_at-f.ensures.within (not-false _ c.if-not-f.false))

pub returns-in_default : goal.returns-in_default
returns-in_default c = no_number c.loop-by.invariant c.field_at-f.ensures (not-false _ c.if-not-f.false) (sym c.token_of.ensures ∙ c.in_default.is) c.no_row-in_default.ensures

pub loop-by-smaller : goal.loop-by-smaller
loop-by-smaller c = let f = c.field_at-f.ensures in
    omega (arith, f.further (not-false _ c.if-not-f.false), f.inside (not-false _ c.if-not-f.false))

pub loop-by-preserved : goal.loop-by-preserved
loop-by-preserved c = kept c.loop-by.invariant c.field_at-f.ensures (not-false _ c.if-not-f.false) (sym c.token_of.ensures ∙ c.in-Number.is) (search rules)
