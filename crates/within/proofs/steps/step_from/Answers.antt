-- `step_from` meets its contract: to a lent position, to any point, or one point on. Assumes nothing.
use mathlib.Core.Path.{sym, ◌∙◌}
use native.Mathlib.Omega.{arith}
use Prim.Native.Nat.{◌-◌}
use Rattle.gradient.specs.Lent.{lent_ramp}
use Rattle.gradient.specs.Ramp.{colour_of}
use Rattle.within.specs.inner.Weighing.{near_by, sites_from}
use Rattle.within.proofs.Questions.{same_points, reach_all, lent_step, lent_shown_lem, any_step, any_shown_lem, one_step, one_shown}
use Rattle.within.proofs.steps.step_from.Goals as goal

pub returns-then-p : goal.returns-then-p
returns-then-p c =
    let a = c.args in
    let g = colour_of (lent_ramp a.ramp.now) in
    let near = near_by a.offs in
    let rest = sites_from a.ts.now a.marks.now a.from (a.count - a.from) in
    let h = sym c.ask-p.ensures.yes ∙ c.if-p.true in
    record {
      points = lent_step g near a.end.t a.a.t rest h _ _ (reach_all _ _ c.reach_from-x.ensures.far) (c.to_lent.ensures ∙ sym (same_points _ a.ts.now a.marks.now _ a.from _));
      shown = lent_shown_lem g near a.end.t a.a.t rest h;
      hand = c.reach_from-x.ensures.hand;
    }

pub reach_from-y-requires : goal.reach_from-y-requires
reach_from-y-requires c =
    let p = c.requires in
    (record { fine = p.fine; hand = c.ask-p.ensures.hand; known = p.known; last = p.last; begun = p.begun; few = p.few }, (omega arith, omega arith))

pub returns-then-y-gt1 : goal.returns-then-y-gt1
returns-then-y-gt1 c =
    let a = c.args in
    let g = colour_of (lent_ramp a.ramp.now) in
    let near = near_by a.offs in
    let rest = sites_from a.ts.now a.marks.now a.from (a.count - a.from) in
    let h = sym c.ask-p.ensures.yes ∙ c.if-p.false in
    let f = reach_all _ _ c.reach_from-y.ensures.far in
    record {
      points = any_step g near a.end.t a.a.t rest h _ f;
      shown = any_shown_lem g near a.end.t a.a.t rest h _ f c.if-y-gt1.true;
      hand = c.reach_from-y.ensures.hand;
    }

pub returns : goal.returns
returns c =
    let a = c.args in
    let g = colour_of (lent_ramp a.ramp.now) in
    let near = near_by a.offs in
    let rest = sites_from a.ts.now a.marks.now a.from (a.count - a.from) in
    let h = sym c.ask-p.ensures.yes ∙ c.if-p.false in
    let f = reach_all _ _ c.reach_from-y.ensures.far in
    record {
      points = one_step g near a.end.t a.a.t rest h _ f c.if-y-gt1.false;
      shown = one_shown g near a.end.t a.a.t rest h _ f c.if-y-gt1.false _ c.ask-q.ensures.yes;
      hand = c.ask-q.ensures.hand;
    }
