-- `fill` meets its contract: after i lines the outputs hold the items of i segments. Assumes nothing.
use borrow.Author.Rules.{rules}
use native.Mathlib.Omega.{arith}
use mathlib.Core.Path.{refl}
use Rattle.ggr.proofs.Filling.{going_start, short, bad, going_on, closed}
use Rattle.ggr.proofs.fill.fill.Goals as goal

pub loop-i-init : goal.loop-i-init
loop-i-init c = let a = c.args in
    going_start _ a.s.now a.rules a.fg a.bg a.n _ a.from refl

pub returns-then-s-at : goal.returns-then-s-at
returns-then-s-at c =
    let a = c.args in
    short _ a.s.now a.rules a.fg a.bg a.n _ _ c.loop-i.at c.loop-i.end c.loop-i.i c.loop-i.invariant (search rules) c.if-s-at.true

pub returns-in-Fault : goal.returns-in-Fault
returns-in-Fault c =
    let a = c.args in
    bad _ a.s.now a.rules a.fg a.bg a.n _ _ c.loop-i.at c.loop-i.end c.loop-i.i c.loop-i.invariant (search rules) (search rules) c.segment_at-l.result.read _ c.segment_at-l.result.next c.segment_at-l.ensures c.weigh.ensures _ c.in-Fault.is

pub overflow_add-result : goal.overflow_add-result
overflow_add-result c =
    omega (arith, c.requires.0)

pub loop-i-preserved : goal.loop-i-preserved
loop-i-preserved c =
    let a = c.args in
    going_on _ a.s.now a.rules a.fg a.bg a.n _ _ c.loop-i.at c.loop-i.end c.loop-i.i c.loop-i.invariant (search rules) (search rules) c.segment_at-l.result.read _ c.segment_at-l.result.next c.segment_at-l.ensures c.weigh.ensures c.requires.1 c.requires.2 c.requires.3 _ c.in-Valid.is _ c.put_segment.ensures

pub closing-requires : goal.closing-requires
closing-requires c = c.requires.0

pub returns : goal.returns
returns c =
    let a = c.args in
    closed _ a.s.now a.rules a.fg a.bg a.n _ _ c.loop-i.at c.loop-i.end c.loop-i.i c.loop-i.invariant (omega arith) _ c.closing.ensures
