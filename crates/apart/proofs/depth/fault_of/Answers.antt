-- `fault_of` meets its contract: test by test. Assumes nothing.
use Rattle.apart.proofs.Telling.{first_fault, later_fault}
use Rattle.apart.proofs.depth.fault_of.Goals as goal

pub returns-then-i-eq0 : goal.returns-then-i-eq0
returns-then-i-eq0 c = first_fault _ _ _ c.is_near-near.ensures c.if-i-eq0.true

pub returns-else-i-eq0 : goal.returns-else-i-eq0
returns-else-i-eq0 c =
    later_fault _ c.is_near-near.ensures c.if-i-eq0.false c.is_told-told.ensures c.is_told-kept.ensures c.is_merged.ensures
