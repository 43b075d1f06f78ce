-- `gimp::are_carried` meets its contract. The loop's invariant: what is asked of the segments left is what is asked of all. Assumes nothing.
use mathlib.Core.Path.{sym, ◌∙◌}
use Rattle.float.proofs.Flags.{failed, passed}
use Rattle.gradient.proofs.GimpLaws.{carried_start, carried_not, carried_next, carried_end}
use Rattle.gradient.proofs.gimp.are_carried.Goals as goal

pub loop-i-init : goal.loop-i-init
loop-i-init c = carried_start c.args.kind c.args.n c.args.positions.now c.args.codes.now

pub returns-then-not-is_carried_at : goal.returns-then-not-is_carried_at
returns-then-not-is_carried_at c =
    let a = c.args in
    sym (carried_not a.kind a.n c.loop-i.i a.positions.now a.codes.now c.loop-i-test.true (failed c.if-not-is_carried_at.true c.is_carried_at.ensures)) ∙ c.loop-i.invariant

pub loop-i-preserved : goal.loop-i-preserved
loop-i-preserved c =
    let a = c.args in
    sym (carried_next a.kind a.n c.loop-i.i a.positions.now a.codes.now c.loop-i-test.true (passed c.if-not-is_carried_at.false c.is_carried_at.ensures)) ∙ c.loop-i.invariant

pub returns : goal.returns
returns c = let a = c.args in sym (carried_end a.kind a.n c.loop-i.i a.positions.now a.codes.now c.loop-i-test.false) ∙ c.loop-i.invariant
