-- `ask` meets its contract: no such point, or what the two points show. Assumes nothing.
use mathlib.Core.Path.{sym, ◌∙◌}
use native.Mathlib.Omega.{arith}
use mathlib.Core.List.{[]}
use Prim.Native.Nat.{◌-◌}
use Rattle.gradient.specs.Lent.{lent_ramp}
use Rattle.gradient.specs.Ramp.{colour_of}
use Rattle.within.specs.inner.Weighing.{near_by, rest_of}
use Rattle.within.proofs.Arrays.{sites_length}
use Rattle.within.proofs.Questions.{same_points, points_most, asked_none, asked_some, shown_from}
use Rattle.within.proofs.asking.ask.Goals as goal

pub returns-then-k-eq0 : goal.returns-then-k-eq0
returns-then-k-eq0 c =
    let a = c.args in
    let g = colour_of (lent_ramp a.ramp.now) in
    record {
      yes = asked_none g (near_by a.offs) a.at.end.t a.a.t (rest_of a.ts.now a.marks.now a.at) a.at.lent a.r c.requires.1 (same_points a.at.lent a.ts.now a.marks.now a.r a.at.from _ ∙ sym c.points_to-k.ensures ∙ c.if-k-eq0.true);
      hand = c.requires.0.hand;
    }

pub point_after-b-requires : goal.point_after-b-requires
point_after-b-requires c =
    let a = c.args in
    let p = c.requires.0 in
    let few = points_most a.at.lent (rest_of [] a.marks.now a.at) a.r in
    let long = sites_length [] a.marks.now a.at.from (a.at.count - a.at.from) in
    record {
      codes_value = (p.fine, (p.begun, (omega (arith, p.few), (omega (arith, c.if-k-eq0.false), omega (arith, c.points_to-k.ensures, few, long, p.begun)))));
      in_hand_with = (p.hand, p.last);
    }

pub overflow_add-from : goal.overflow_add-from
overflow_add-from c =
    let a = c.args in
    let few = points_most a.at.lent (rest_of [] a.marks.now a.at) a.r in
    let long = sites_length [] a.marks.now a.at.from (a.at.count - a.at.from) in
    omega (arith, c.points_to-k.ensures, few, long, c.requires.0.begun, c.requires.0.few)

pub shows_to-requires : goal.shows_to-requires
shows_to-requires c =
    let p = c.requires.0 in
    record {
      fine = p.fine;
      hand = p.hand;
      left = p.known;
      right = c.point_after-b.ensures.1;
      begun = omega (arith, c.min-to.ensures, p.begun);
      some = omega (arith, c.min-to.ensures);
      few = omega (arith, p.few);
    }

pub returns : goal.returns
returns c =
    let a = c.args in
    let g = colour_of (lent_ramp a.ramp.now) in
    let k = c.points_to-k.result in
    record {
      yes =
          c.shows_to.ensures.yes
          ∙ shown_from g (near_by a.offs) a.at.end.t a.a.t _ a.ts.now a.marks.now a.at.from a.at.count k _ c.requires.0.begun c.min-to.ensures c.point_after-b.ensures.0
          ∙ asked_some g (near_by a.offs) a.at.end.t a.a.t (rest_of a.ts.now a.marks.now a.at) a.at.lent a.r k (c.points_to-k.ensures ∙ sym (same_points a.at.lent a.ts.now a.marks.now a.r a.at.from _)) c.if-k-eq0.false;
      hand = c.shows_to.ensures.hand;
    }
