-- `shows_to` meets its contract: what is asked of all points is asked of those left, block by block. The measure is how many. Assumes nothing.
use mathlib.Core.Path.{refl, sym, ◌∙◌}
use Prim.Native.Nat.{◌-◌}
use native.Mathlib.Omega.{arith}
use Rattle.gradient.specs.Lent.{lent_ramp}
use Rattle.gradient.specs.Ramp.{colour_of}
use Rattle.within.specs.inner.Weighing.{near_by}
use Rattle.within.proofs.Arrays.{first_no, first_yes, none_left}
use Rattle.within.proofs.Blocks.{shown_is}
use Rattle.within.proofs.asking.shows_to.Goals as goal

pub loop-i-init : goal.loop-i-init
loop-i-init c = (omega arith, (c.requires.begun, (refl, c.requires.hand)))

pub refill-v-requires : goal.refill-v-requires
refill-v-requires c =
    let p = c.requires in
    record { codes_value = (p.fine, (omega (arith, c.loop-i-test.true, p.some), p.few)); colours_in_hand = c.loop-i.invariant.1.1.1 }

pub shows-requires : goal.shows-requires
shows-requires c =
    let e = c.min-stop.ensures in
    let r = c.refill-v.ensures in
    (r.from, (omega (arith, e, r.hand.fits), omega (arith, e, r.hand.within)))

pub returns-then-not-shows : goal.returns-then-not-shows
returns-then-not-shows c =
    let l = c.loop-i in
    let s = c.requires in
    let a = c.args in
    let g = colour_of (lent_ramp a.ramp.now) in
    let e = c.min-stop.ensures in
    let r = c.refill-v.ensures in
    let asked = shown_is g a.ts.now _ _ r.hand (near_by a.offs) a.a a.b s.left s.right a.marks.now l.i c.min-stop.result r.from (omega (arith, e)) in
    record {
      yes = sym (l.invariant.1.1.0 ∙ first_no _ l.i (c.min-stop.result - l.i) (a.to - c.min-stop.result) (a.to - l.i) (omega (arith, e, r.to, c.loop-i-test.true)) (sym asked ∙ sym c.shows.ensures ∙ c.if-not-shows.true));
      hand = r.hand;
    }

pub loop-i-smaller : goal.loop-i-smaller
loop-i-smaller c =
    omega (arith, c.min-stop.ensures, c.refill-v.ensures.to, c.loop-i-test.true)

pub loop-i-preserved : goal.loop-i-preserved
loop-i-preserved c =
    let l = c.loop-i in
    let s = c.requires in
    let a = c.args in
    let g = colour_of (lent_ramp a.ramp.now) in
    let e = c.min-stop.ensures in
    let r = c.refill-v.ensures in
    let asked = shown_is g a.ts.now _ _ r.hand (near_by a.offs) a.a a.b s.left s.right a.marks.now l.i c.min-stop.result r.from (omega (arith, e)) in (
      omega (arith, l.invariant.0, e, r.to, c.loop-i-test.true),
      (
        omega (arith, e),
        (
          l.invariant.1.1.0 ∙ first_yes _ l.i (c.min-stop.result - l.i) (a.to - c.min-stop.result) c.min-stop.result (a.to - l.i) (omega (arith, e, r.to, c.loop-i-test.true)) (omega (arith, e, r.to, c.loop-i-test.true)) (sym asked ∙ sym c.shows.ensures ∙ c.if-not-shows.false),
          r.hand,
        ),
      ),
    )

pub returns : goal.returns
returns c =
    let l = c.loop-i in
    record { yes = sym (l.invariant.1.1.0 ∙ none_left _ l.i _ c.loop-i-test.false); hand = l.invariant.1.1.1 }
