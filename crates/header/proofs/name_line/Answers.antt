-- `name_line` meets its contract: line 2 is right, and the rest is line 3's. Assumes nothing.
use borrow.Author.Rules.{rules}
use native.Mathlib.Omega.{arith}
use Rattle.header.proofs.Leads.{second_end, second_bad, second_go}
use Rattle.header.proofs.name_line.Goals as goal

pub returns-then-s-at : goal.returns-then-s-at
returns-then-s-at c = let a = c.args in
    second_end a.s.now a.at a.room c.if-s-at.true

pub slice_bounds-starts_with-end : goal.slice_bounds-starts_with-end
slice_bounds-starts_with-end c = omega (arith, c.line_at-l.ensures.within (search rules))

pub returns-then-not-starts_with : goal.returns-then-not-starts_with
returns-then-not-starts_with c = let a = c.args in
    second_bad a.s.now a.at a.room (search rules) c.line_at-l.result.end c.line_at-l.result.next c.line_at-l.ensures _ c.starts_with.ensures (c.if-not-starts_with.true)

pub returns : goal.returns
returns c = let a = c.args in
    second_go a.s.now a.at a.room (search rules) c.line_at-l.result.end c.line_at-l.result.next c.line_at-l.ensures _ c.starts_with.ensures (c.if-not-starts_with.false) _ c.count_line.ensures
