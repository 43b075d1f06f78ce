-- `line` meets its contract: line k is line k - i from `at` on. Assumes nothing.
use Rattle.colorgrad_c.proofs.Messages.{passed_none, passed_more, passed_all}
use Rattle.colorgrad_c.proofs.about.line.Goals as goal

pub loop-i-init : goal.loop-i-init
loop-i-init c = passed_none _ _

pub loop-i-preserved : goal.loop-i-preserved
loop-i-preserved c = passed_more c.loop-i.invariant c.loop-i-test.true c.line_at-at.ensures

pub slice_bounds-result-count : goal.slice_bounds-result-count
slice_bounds-result-count c = c.line_at-l.ensures.order

pub slice_bounds-result-start : goal.slice_bounds-result-start
slice_bounds-result-start c = c.line_at-l.ensures.order

pub slice_bounds-result-end : goal.slice_bounds-result-end
slice_bounds-result-end c = c.line_at-l.ensures.within c.loop-i.invariant.within

pub returns : goal.returns
returns c = passed_all c.loop-i.invariant c.loop-i-test.false c.line_at-l.ensures
