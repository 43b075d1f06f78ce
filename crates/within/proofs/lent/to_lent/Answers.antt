-- `to_lent` meets its contract: what is sought from the start is what is left to seek. Assumes nothing.
use Rattle.within.proofs.Lenting.{scan_none, scan_start, scan_found, scan_next, scan_max, scan_past}
use Rattle.within.proofs.lent.to_lent.Goals as goal

pub returns-then-r-eq0 : goal.returns-then-r-eq0
returns-then-r-eq0 c = scan_none _ _ _ _ c.if-r-eq0.true

pub loop-i-init : goal.loop-i-init
loop-i-init c = scan_start _ _ _ _ c.requires.0 c.if-r-eq0.false

pub returns-then-mark-left : goal.returns-then-mark-left
returns-then-mark-left c =
    scan_found _ _ _ _ _ _ c.loop-i.invariant c.loop-i-test.true c.if-mark-left.true

pub loop-i-preserved : goal.loop-i-preserved
loop-i-preserved c =
    scan_next _ _ _ _ _ _ c.loop-i.invariant c.loop-i-test.true _ c.if-mark-left.false c.left_after-left.ensures

pub returns-then-left-eq1 : goal.returns-then-left-eq1
returns-then-left-eq1 c = scan_max _ _ _ _ _ _ c.loop-i.invariant c.loop-i-test.false c.if-left-eq1.true

pub returns-else-left-eq1 : goal.returns-else-left-eq1
returns-else-left-eq1 c = scan_past _ _ _ _ _ _ c.loop-i.invariant c.loop-i-test.false c.if-left-eq1.false
