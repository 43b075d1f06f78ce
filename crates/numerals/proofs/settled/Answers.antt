-- `settled` meets its contract. Assumes nothing.
use native.Mathlib.Omega.{arith}
use Rattle.numerals.proofs.Scale.{some_places, settled_ten, settled_nine}
use Rattle.numerals.proofs.settled.Goals as goal

pub overflow_sub-result : goal.overflow_sub-result
overflow_sub-result c = omega (arith, some_places _ _ _ _ _ c.nine_of-d.ensures (omega arith) c.if-d-eq1000000000.true)

pub returns-then-d-eq1000000000 : goal.returns-then-d-eq1000000000
returns-then-d-eq1000000000 c =
    let e = c.nine_of-d.ensures in
    settled_ten _ _ _ _ _ e (some_places _ _ _ _ _ e (omega arith) c.if-d-eq1000000000.true) c.if-d-eq1000000000.true

pub returns : goal.returns
returns c = settled_nine _ _ _ _ _ c.nine_of-d.ensures c.if-d-eq1000000000.false
