-- `tell` meets its contract: after i turns the bytes and the counts are those of the first i depths. Assumes nothing.
use native.Mathlib.Omega.{arith}
use Rattle.apart.proofs.Telling.{started, countable, filled, turned}
use Rattle.apart.proofs.tell.Goals as goal

pub loop-i-init : goal.loop-i-init
loop-i-init c = started _ _ _ _ _ _ c.item-first.ensures c.see-before.ensures

pub loop-i-preserved : goal.loop-i-preserved
loop-i-preserved c =
    turned _ _ _ _ _ _ _ c.loop-i.invariant c.loop-i-test.true c.requires
    c.see-here.ensures c.fault_of-fault.ensures c.byte.ensures c.with-tally.ensures

pub with-tally-requires : goal.with-tally-requires
with-tally-requires c = countable _ _ _ _ _ _ _ c.loop-i.invariant (omega arith)

pub returns : goal.returns
returns c = filled _ _ _ _ _ _ _ c.loop-i.invariant c.loop-i-test.false
