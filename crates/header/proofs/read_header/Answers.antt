-- `read_header` meets its contract: line 1 is right, and the rest is line 2's. Assumes nothing.
use native.Mathlib.Omega.{arith}
use borrow.Author.Tests.{eqb-true, eqb-false}
use mathlib.Core.Path.{sym, ◌∙◌}
use Rattle.header.proofs.Leads.{first_end, first_bad, first_go}
use Rattle.header.proofs.read_header.Goals as goal

pub returns-then-is_empty : goal.returns-then-is_empty
returns-then-is_empty c = let a = c.args in
    first_end a.s.now a.room (eqb-true _ _ (sym c.is_empty.ensures ∙ c.if-is_empty.true))

pub slice_bounds-is_same-end : goal.slice_bounds-is_same-end
slice_bounds-is_same-end c = omega (arith, c.line_at-l.ensures.within c.marks-at.ensures.0)

pub returns-then-not-is_same : goal.returns-then-not-is_same
returns-then-not-is_same c = let a = c.args in
    first_bad a.s.now a.room (eqb-false _ _ (sym c.is_empty.ensures ∙ c.if-is_empty.false)) c.marks-at.result c.marks-at.ensures.0 c.marks-at.ensures.1 c.line_at-l.result.end c.line_at-l.result.next c.line_at-l.ensures _ c.is_same.ensures (c.if-not-is_same.true)

pub returns : goal.returns
returns c = let a = c.args in
    first_go a.s.now a.room (eqb-false _ _ (sym c.is_empty.ensures ∙ c.if-is_empty.false)) c.marks-at.result c.marks-at.ensures.0 c.marks-at.ensures.1 c.line_at-l.result.end c.line_at-l.result.next c.line_at-l.ensures _ c.is_same.ensures (c.if-not-is_same.false) _ c.name_line.ensures
