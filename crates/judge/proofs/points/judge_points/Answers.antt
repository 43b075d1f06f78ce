-- `judge_points` meets its contract: the verdict on the rows that are left is that on all. Assumes nothing.
use mathlib.Core.Path.{sym, ap, ◌∙◌}
use Prim.Native.Nat.{◌*◌, ◌<◌}
use native.Mathlib.Omega.{arith}
use Rattle.float.proofs.Flags.{failed, passed}
use Rattle.gradient.specs.Lent.{lent_ramp}
use Rattle.judge.specs.Lists.{offer_in}
use Rattle.judge.specs.inner.Steps.{any_close, far_from}
use Rattle.judge.proofs.Answering.{from_first, row_far, row_near, end_far, end_near}
use Rattle.judge.proofs.points.judge_points.Goals as goal

pub loop-i-init : goal.loop-i-init
loop-i-init c = from_first _ _ _ _

pub overflow_mul-at : goal.overflow_mul-at
overflow_mul-at c = omega (arith, c.requires.many)

pub first_far-j-requires : goal.first_far-j-requires
first_far-j-requires c =
    let row : c.loop-i.i < 36 = omega (arith, c.requires.many) in
    omega (arith, c.requires.long, c.requires.most c.loop-i.i row)

pub returns-then-j-count : goal.returns-then-j-count
returns-then-j-count c =
    let a = c.args in
    let near = any_close (lent_ramp a.ramp.now) (offer_in a.places a.colours) a.threshold in
    let i = c.loop-i.i in
    let row : i < 36 = omega (arith, c.requires.many) in
    let far = c.first_far-j.ensures ∙ ap (far_from near a.rows.now (i * 128)) c.from-count.ensures in
    sym (row_far near a.rows.now a.counts.now a.max i c.first_far-j.result row far (omega (arith, c.from-count.ensures, c.if-j-count.true))) ∙ c.loop-i.invariant

pub loop-i-preserved : goal.loop-i-preserved
loop-i-preserved c =
    let a = c.args in
    let near = any_close (lent_ramp a.ramp.now) (offer_in a.places a.colours) a.threshold in
    let i = c.loop-i.i in
    let row : i < 36 = omega (arith, c.requires.many) in
    let far = c.first_far-j.ensures ∙ ap (far_from near a.rows.now (i * 128)) c.from-count.ensures in
    row_near near a.rows.now a.counts.now a.max i c.first_far-j.result row far (omega (arith, c.from-count.ensures, c.if-j-count.false)) ∙ c.loop-i.invariant

pub returns-then-not-is_close : goal.returns-then-not-is_close
returns-then-not-is_close c =
    sym (end_far _ _ _ _ c.loop-i.i (omega (arith, c.requires.many)) (failed c.if-not-is_close.true c.is_close.ensures)) ∙ c.loop-i.invariant

pub returns : goal.returns
returns c =
    sym (end_near _ _ _ _ c.loop-i.i (omega (arith, c.requires.many)) (passed c.if-not-is_close.false c.is_close.ensures)) ∙ c.loop-i.invariant
