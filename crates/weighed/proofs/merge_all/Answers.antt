-- `merge_all` meets its contract: what was taken and what is to come stay the same list. The measure is what is left. Assumes nothing.
use mathlib.Core.Path.{sym, ap, ◌∙◌}
use mathlib.Core.Bool.{Bool, ◌||◌}
use native.Mathlib.Omega.{arith}
use lib.Dec.{ltb}
use Rattle.weighed.proofs.Gathering.{merging_start, merging_may, merging_next, merging_done}
use Rattle.weighed.proofs.merge_all.Goals as goal

pub loop-s-init : goal.loop-s-init
loop-s-init c = merging_start _ _ _ _ _ _ _ c.requires.0 c.requires.1 c.next_own.result c.next_own.ensures

pub merge_step-s-requires : goal.merge_step-s-requires
merge_step-s-requires c =
    merging_may _ _ _ _ _ _ _ c.requires.0 _ _ _ c.loop-s.invariant (ap (λ (b : Bool). ltb c.loop-s.s.place.row 36 || b) (sym c.is_some.ensures) ∙ sym c.goes_on.ensures ∙ c.loop-s-test.true)

pub loop-s-smaller : goal.loop-s-smaller
loop-s-smaller c = omega (arith, c.merge_step-s.ensures.less)

pub loop-s-preserved : goal.loop-s-preserved
loop-s-preserved c = merging_next _ _ _ _ _ _ _ c.requires.0 _ _ _ c.loop-s.invariant _ _ _ c.merge_step-s.ensures

pub returns : goal.returns
returns c =
    merging_done _ _ _ _ _ _ _ c.requires.0 _ _ _ c.loop-s.invariant (ap (λ (b : Bool). ltb c.loop-s.s.place.row 36 || b) (sym c.is_some.ensures) ∙ sym c.goes_on.ensures ∙ c.loop-s-test.false)
