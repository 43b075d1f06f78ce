-- `thin_sites` meets its contract: what the whole list comes to stays the same from stop to stop. The measure is how many points are left. Assumes nothing.
use Prim.Native.Nat.{◌+◌, ◌≤◌}
use native.Mathlib.Omega.{arith}
use borrow.Author.Tests.{not-true, not-false}
use Rattle.gradient.specs.Lent.{lent_ramp}
use Rattle.gradient.specs.Ramp.{colour_of}
use Rattle.within.specs.inner.Weighing.{near_by}
use Rattle.within.proofs.Blocks.{nothing_in_hand}
use Rattle.within.proofs.Emitting.{steps_some, steps_few, going_start, going_refused, going_unshown, going_next, going_done}
use Rattle.within.proofs.listing.thin_sites.Goals as goal

pub loop-i-init : goal.loop-i-init
loop-i-init c = let p = c.requires in going_start _ _ _ _ _ _ _ _ _ _ _ _ p.codes_value.1.1.0 p.coloured.0 (nothing_in_hand _ _ _ p.codes_value.1.1.1)

pub step_from-step-requires : goal.step_from-step-requires
step_from-step-requires c =
    let p = c.requires in
    let k = c.loop-i.invariant in
    record { fine = p.codes_value.0; hand = k.hand; known = k.coloured; last = p.coloured.1; begun = c.loop-i-test.true; few = p.codes_value.1.0 }

pub point_after-b-requires : goal.point_after-b-requires
point_after-b-requires c =
    let p = c.requires in
    let a = c.args in
    let g = colour_of (lent_ramp a.ramp.now) in
    let i = c.loop-i.i in
    let x = c.loop-i.s.last.t in
    let points = c.step_from-step.result.points in
    let some : 1 ≤ points = steps_some g (near_by a.offs) a.end.t a.room a.count a.ts.now a.marks.now x i points c.step_from-step.ensures.points in
    let few : i + points ≤ a.count + 1 = steps_few g (near_by a.offs) a.end.t a.room a.count a.ts.now a.marks.now x i points c.loop-i-test.true c.step_from-step.ensures.points in
    record {
      codes_value = (p.codes_value.0, (c.loop-i-test.true, (omega (arith, p.codes_value.1.0), (some, few))));
      in_hand_with = (c.step_from-step.ensures.hand, p.coloured.1);
    }

pub returns-then-refusal-ne0 : goal.returns-then-refusal-ne0
returns-then-refusal-ne0 c =
    let a = c.args in
    let l = c.loop-i in
    let e = c.step_from-step.ensures in
    let b = c.point_after-b in
    going_refused (colour_of (lent_ramp a.ramp.now)) (near_by a.offs) a.end.t a.room a.count a.ts.now a.marks.now _ _ _ l.i l.s l.w l.block l.places l.colours l.invariant c.loop-i-test.true
    c.step_from-step.result.points e.points b.result b.ensures.0 b.ensures.1 c.step_from-step.result.shown e.shown c.emit-s.result c.emit-s.new.places c.emit-s.new.colours c.emit-s.ensures c.if-refusal-ne0.true

pub returns-then-not-step : goal.returns-then-not-step
returns-then-not-step c =
    let a = c.args in
    let l = c.loop-i in
    let e = c.step_from-step.ensures in
    let b = c.point_after-b in
    going_unshown (colour_of (lent_ramp a.ramp.now)) (near_by a.offs) a.end.t a.room a.count a.ts.now a.marks.now _ _ _ l.i l.s l.w l.block l.places l.colours l.invariant c.loop-i-test.true
    c.step_from-step.result.points e.points b.result b.ensures.0 b.ensures.1 c.step_from-step.result.shown e.shown c.emit-s.result c.emit-s.new.places c.emit-s.new.colours c.emit-s.ensures c.if-refusal-ne0.false (not-true _ c.if-not-step.true) _

pub overflow_add-i : goal.overflow_add-i
overflow_add-i c =
    let a = c.args in
    let g = colour_of (lent_ramp a.ramp.now) in
    let i = c.loop-i.i in
    let x = c.loop-i.s.last.t in
    let points = c.step_from-step.result.points in
    let few : i + points ≤ a.count + 1 = steps_few g (near_by a.offs) a.end.t a.room a.count a.ts.now a.marks.now x i points c.loop-i-test.true c.step_from-step.ensures.points in
    omega (arith, few, c.requires.codes_value.1.0)

pub loop-i-smaller : goal.loop-i-smaller
loop-i-smaller c =
    let a = c.args in
    let g = colour_of (lent_ramp a.ramp.now) in
    let i = c.loop-i.i in
    let x = c.loop-i.s.last.t in
    let points = c.step_from-step.result.points in
    let some : 1 ≤ points = steps_some g (near_by a.offs) a.end.t a.room a.count a.ts.now a.marks.now x i points c.step_from-step.ensures.points in
    let few : i + points ≤ a.count + 1 = steps_few g (near_by a.offs) a.end.t a.room a.count a.ts.now a.marks.now x i points c.loop-i-test.true c.step_from-step.ensures.points in
    omega (arith, some, few, c.loop-i-test.true)

pub loop-i-preserved : goal.loop-i-preserved
loop-i-preserved c =
    let a = c.args in
    let l = c.loop-i in
    let e = c.step_from-step.ensures in
    let b = c.point_after-b in
    going_next (colour_of (lent_ramp a.ramp.now)) (near_by a.offs) a.end.t a.room a.count a.ts.now a.marks.now _ _ _ l.i l.s l.w l.block l.places l.colours l.invariant c.loop-i-test.true
    c.step_from-step.result.points e.points b.result b.ensures.0 b.ensures.1 c.step_from-step.result.shown e.shown c.emit-s.result c.emit-s.new.places c.emit-s.new.colours c.emit-s.ensures _ _ e.hand c.if-refusal-ne0.false (not-false _ c.if-not-step.false) c.emit-s.auto.places c.emit-s.auto.colours

pub returns : goal.returns
returns c =
    let a = c.args in
    let l = c.loop-i in
    going_done (colour_of (lent_ramp a.ramp.now)) (near_by a.offs) a.end.t a.room a.count a.ts.now a.marks.now _ _ _ l.i l.s l.w l.block l.places l.colours l.invariant c.loop-i-test.false
