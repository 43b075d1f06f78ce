-- `reach_from` meets its contract: r is doubled while the answer is yes, and what the rest comes to is a half less or more. Assumes nothing.
use mathlib.Core.Path.{sym, ◌∙◌}
use native.Mathlib.Omega.{arith}
use borrow.Author.Tests.{not-true, not-false}
use Rattle.gradient.specs.Lent.{lent_ramp}
use Rattle.within.specs.inner.Weighing.{answered}
use Rattle.within.proofs.Questions.{reach_none, reach_stops, reach_stays, reach_adds, reach_most, reach_least, half_reach}
use Rattle.within.proofs.steps.+reach_from.Goals as goal

pub returns-then-k-eq0 : goal.returns-then-k-eq0
returns-then-k-eq0 t c =
    let a = c.args in
    let yes = answered (lent_ramp a.ramp.now) a.offs a.ts.now a.marks.now a.a a.at in
    let f = reach_none yes a.k a.r c.if-k-eq0.true in
    record { far = f; most = omega (arith, f, reach_most yes a.k a.r c.requires.1.1); hand = c.requires.0.hand }

pub overflow_mul-twice : goal.overflow_mul-twice
overflow_mul-twice t c = omega (arith, reach_least c.args.k c.args.r c.requires.1.1)

pub ask-p-requires : goal.ask-p-requires
ask-p-requires t c = (c.requires.0, omega arith)

pub returns-then-not-p : goal.returns-then-not-p
returns-then-not-p t c =
    let a = c.args in
    let yes = answered (lent_ramp a.ramp.now) a.offs a.ts.now a.marks.now a.a a.at in
    let f = reach_stops yes a.k a.r c.if-k-eq0.false (sym c.ask-p.ensures.yes ∙ not-true _ c.if-not-p.true) in
    record { far = f; most = omega (arith, f, reach_most yes a.k a.r c.requires.1.1); hand = c.ask-p.ensures.hand }

pub reach_from-x-requires : goal.reach_from-x-requires
reach_from-x-requires t c =
    let p = c.requires.0 in (
      omega arith,
      (
        record { fine = p.fine; hand = c.ask-p.ensures.hand; known = p.known; last = p.last; begun = p.begun; few = p.few },
        (omega arith, half_reach c.args.k c.args.r c.if-k-eq0.false c.requires.1.1),
      ),
    )

pub overflow_add-sum : goal.overflow_add-sum
overflow_add-sum t c = omega (arith, c.reach_from-x.ensures.most, reach_least c.args.k c.args.r c.requires.1.1)

pub ask-q-requires : goal.ask-q-requires
ask-q-requires t c =
    let p = c.requires.0 in
    (record { fine = p.fine; hand = c.reach_from-x.ensures.hand; known = p.known; last = p.last; begun = p.begun; few = p.few }, omega arith)

pub returns-then-not-q : goal.returns-then-not-q
returns-then-not-q t c =
    let a = c.args in
    let yes = answered (lent_ramp a.ramp.now) a.offs a.ts.now a.marks.now a.a a.at in
    let f = reach_stays yes a.k a.r _ c.if-k-eq0.false (sym c.ask-p.ensures.yes ∙ not-false _ c.if-not-p.false) c.reach_from-x.ensures.far (sym c.ask-q.ensures.yes ∙ not-true _ c.if-not-q.true) in
    record { far = f; most = c.reach_from-x.ensures.most; hand = c.ask-q.ensures.hand }

pub returns : goal.returns
returns t c =
    let a = c.args in
    let yes = answered (lent_ramp a.ramp.now) a.offs a.ts.now a.marks.now a.a a.at in
    let f = reach_adds yes a.k a.r c.reach_from-x.result.r c.if-k-eq0.false (sym c.ask-p.ensures.yes ∙ not-false _ c.if-not-p.false) c.reach_from-x.ensures.far (sym c.ask-q.ensures.yes ∙ not-false _ c.if-not-q.false) in
    record { far = f; most = omega (arith, f, reach_most yes a.k a.r c.requires.1.1); hand = c.ask-q.ensures.hand }
