-- `next_beside` meets its contract: one list is at its end, or the lesser of both comes first. Assumes nothing.
use Rattle.weighed.proofs.Neighbouring.{beside_none, beside_above, beside_below, beside_first, beside_second}
use Rattle.weighed.proofs.neighbours.next_beside.Goals as goal

pub returns-then-n-a : goal.returns-then-n-a
returns-then-n-a c = beside_none _ _ c.if-n-b.true c.if-n-a.true

pub returns-then-n-b : goal.returns-then-n-b
returns-then-n-b c = beside_above _ _ _ c.if-n-b.true c.if-n-a.false c.next_above.ensures

pub returns-then-n-a-2 : goal.returns-then-n-a-2
returns-then-n-a-2 c = beside_below _ _ _ c.if-n-b.false c.if-n-a-2.true c.next_below.ensures

pub returns-then-x-y : goal.returns-then-x-y
returns-then-x-y c =
    beside_first _ _ c.if-n-b.false c.if-n-a-2.false _ _ c.next_below-x.ensures c.next_above-y.ensures c.if-x-y.true

pub returns : goal.returns
returns c =
    beside_second _ _ c.if-n-b.false c.if-n-a-2.false _ _ c.next_below-x.ensures c.next_above-y.ensures c.if-x-y.false
