-- `are_ascii_lines` meets its contract: line by line, the lines left are as the whole. Assumes nothing.
use borrow.Author.Rules.{rules}
use native.Mathlib.Omega.{arith}
use Rattle.ggr.proofs.Fitting.{left_start, left_end, left_none, left_bad, left_on}
use Rattle.ggr.proofs.fit.are_ascii_lines.Goals as goal

pub loop-init : goal.loop-init
loop-init c = let a = c.args in left_start a.s.now a.from a.n

pub returns-then-s-at : goal.returns-then-s-at
returns-then-s-at c = let a = c.args in
    left_end a.s.now a.from a.n c.loop.at c.loop.counter c.loop.invariant c.if-s-at.true

pub slice_bounds-is_ascii-end : goal.slice_bounds-is_ascii-end
slice_bounds-is_ascii-end c = omega (arith, c.line_at-l.ensures.within (search rules))

pub returns-then-not-is_ascii : goal.returns-then-not-is_ascii
returns-then-not-is_ascii c = let a = c.args in
    left_bad a.s.now a.from a.n c.loop.at c.loop.counter c.loop.invariant (search rules) (search rules) c.line_at-l.ensures c.is_ascii.ensures (c.if-not-is_ascii.true)

pub loop-preserved : goal.loop-preserved
loop-preserved c = let a = c.args in
    left_on a.s.now a.from a.n c.loop.at c.loop.counter c.loop.invariant (search rules) (search rules) c.line_at-l.ensures c.is_ascii.ensures (c.if-not-is_ascii.false)

pub returns : goal.returns
returns c = let a = c.args in
    left_none a.s.now a.from a.n c.loop.at c.loop.counter c.loop.invariant (search rules)
