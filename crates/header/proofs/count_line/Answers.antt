-- `count_line` meets its contract: a case for each way through the tests. Assumes nothing.
use borrow.Author.Rules.{rules}
use native.Mathlib.Omega.{arith}
use Rattle.header.proofs.Leads.{third_end, third_bad, third_most, third_room, third_zero, third_some}
use Rattle.header.proofs.count_line.Goals as goal

pub returns-then-s-at : goal.returns-then-s-at
returns-then-s-at c = let a = c.args in
    third_end a.s.now a.at a.room c.if-s-at.true

pub slice_bounds-number_of-end : goal.slice_bounds-number_of-end
slice_bounds-number_of-end c = omega (arith, c.line_at-l.ensures.within (search rules))

pub returns-in_default : goal.returns-in_default
returns-in_default c = let a = c.args in
    third_bad a.s.now a.at a.room (search rules) c.line_at-l.result.end c.line_at-l.result.next c.line_at-l.ensures _ c.number_of.ensures c.in_default.is

pub returns-then-m-gt-MOST_SEGMENTS : goal.returns-then-m-gt-MOST_SEGMENTS
returns-then-m-gt-MOST_SEGMENTS c = let a = c.args in
    third_most a.s.now a.at a.room (search rules) c.line_at-l.result.end c.line_at-l.result.next c.line_at-l.ensures _ c.number_of.ensures _ c.in-Some.is c.if-m-gt-MOST_SEGMENTS.true

pub returns-then-room-m : goal.returns-then-room-m
returns-then-room-m c = let a = c.args in
    third_room a.s.now a.at a.room (search rules) c.line_at-l.result.end c.line_at-l.result.next c.line_at-l.ensures _ c.number_of.ensures _ c.in-Some.is (search rules) c.if-room-m.true

pub returns-then-m-eq0 : goal.returns-then-m-eq0
returns-then-m-eq0 c = let a = c.args in
    third_zero a.s.now a.at a.room (search rules) c.line_at-l.result.end c.line_at-l.result.next c.line_at-l.ensures _ c.number_of.ensures _ c.in-Some.is (search rules) c.if-m-eq0.true

pub returns : goal.returns
returns c = let a = c.args in
    third_some a.s.now a.at a.room (search rules) c.line_at-l.result.end c.line_at-l.result.next c.line_at-l.ensures _ c.number_of.ensures _ c.in-Some.is (search rules) (search rules) c.if-m-eq0.false
