-- `find` meets its contract: what is left of the list gives the same stop from place to place. The measure is what is left of the list. Assumes nothing.
use mathlib.Core.Path.{◌∙◌}
use native.Mathlib.Omega.{arith}
use Rattle.gradient.specs.Lent.{lent_ramp}
use Rattle.gradient.specs.Ramp.{colour_of}
use Rattle.difference.specs.Difference.{exceeds}
use Rattle.next_stop.proofs.Walking.{begun, started, nearer, one_more, kept_here, walked_on, at_last}
use Rattle.next_stop.proofs.walk.find.Goals as goal

pub lone_point-last-requires : goal.lone_point-last-requires
lone_point-last-requires c = c.requires.codes_value

pub lone_point-x-requires : goal.lone_point-x-requires
lone_point-x-requires c = c.requires.codes_value

pub loop-place-init : goal.loop-place-init
loop-place-init c =
    let a = c.args in
    let g = colour_of (lent_ramp a.ramp.now) in
    let kept = c.lone_point-last.ensures in
    let x = c.lone_point-x.ensures in
    started g (exceeds a.cutoff) a.rows.now a.counts.now a.max c.requires.ready.0 a.from c.lone_point-last.result c.next_place-place.result c.requires.ready.1.0 c.requires.ready.1.1 c.next_place-place.ensures (kept.0 ∙ c.point_at-t.ensures, kept.1) c.lone_point-x.result (x.0 ∙ c.point_at-second.ensures, x.1)

pub lone_point-next-requires : goal.lone_point-next-requires
lone_point-next-requires c = c.requires.codes_value

pub overflow_add-tried : goal.overflow_add-tried
overflow_add-tried c =
    let a = c.args in
    let g = colour_of (lent_ramp a.ramp.now) in
    let y = c.lone_point-next.ensures in
    omega (arith, one_more g (exceeds a.cutoff) a.rows.now a.counts.now a.max c.requires.ready.0 _ _ c.loop-place.place c.loop-place.x c.loop-place.tried c.loop-place.invariant c.loop-place-test.true c.next_place-after.result c.lone_point-next.result c.next_place-after.ensures (y.0 ∙ c.point_at-later.ensures, y.1) c.weigh-w.ensures)

pub returns-then-w : goal.returns-then-w
returns-then-w c =
    let a = c.args in
    let g = colour_of (lent_ramp a.ramp.now) in
    let kept = c.lone_point-last.ensures in
    let y = c.lone_point-next.ensures in
    kept_here g (exceeds a.cutoff) a.rows.now a.counts.now a.max c.requires.ready.0 _ _ c.loop-place.place c.loop-place.x c.loop-place.tried c.loop-place.invariant c.loop-place-test.true c.next_place-after.result c.lone_point-next.result c.next_place-after.ensures (y.0 ∙ c.point_at-later.ensures, y.1) c.weigh-w.ensures a.from
    (begun g (exceeds a.cutoff) a.rows.now a.counts.now a.max c.requires.ready.0 a.from c.lone_point-last.result c.next_place-place.result c.requires.ready.1.0 c.requires.ready.1.1 c.next_place-place.ensures (kept.0 ∙ c.point_at-t.ensures, kept.1)) c.if-w.true

pub loop-place-smaller : goal.loop-place-smaller
loop-place-smaller c =
    let a = c.args in
    let g = colour_of (lent_ramp a.ramp.now) in
    let y = c.lone_point-next.ensures in
    nearer g (exceeds a.cutoff) a.rows.now a.counts.now a.max c.requires.ready.0 _ _ c.loop-place.place c.loop-place.x c.loop-place.tried c.loop-place.invariant c.loop-place-test.true c.next_place-after.result c.lone_point-next.result c.next_place-after.ensures (y.0 ∙ c.point_at-later.ensures, y.1) c.weigh-w.ensures

pub loop-place-preserved : goal.loop-place-preserved
loop-place-preserved c =
    let a = c.args in
    let g = colour_of (lent_ramp a.ramp.now) in
    let y = c.lone_point-next.ensures in
    walked_on g (exceeds a.cutoff) a.rows.now a.counts.now a.max c.requires.ready.0 _ _ c.loop-place.place c.loop-place.x c.loop-place.tried c.loop-place.invariant c.loop-place-test.true c.next_place-after.result c.lone_point-next.result c.next_place-after.ensures (y.0 ∙ c.point_at-later.ensures, y.1) c.weigh-w.ensures c.if-w.false

pub returns : goal.returns
returns c =
    let a = c.args in
    let g = colour_of (lent_ramp a.ramp.now) in
    let kept = c.lone_point-last.ensures in
    at_last g (exceeds a.cutoff) a.rows.now a.counts.now a.max c.requires.ready.0 _ _ c.loop-place.place c.loop-place.x c.loop-place.tried c.loop-place.invariant a.from
    (begun g (exceeds a.cutoff) a.rows.now a.counts.now a.max c.requires.ready.0 a.from c.lone_point-last.result c.next_place-place.result c.requires.ready.1.0 c.requires.ready.1.1 c.next_place-place.ensures (kept.0 ∙ c.point_at-t.ensures, kept.1)) c.loop-place-test.false
