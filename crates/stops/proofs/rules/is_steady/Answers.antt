-- `rules::is_steady` meets its contract. The loop's invariant: what is asked of the positions left is what is asked of all. Assumes nothing.
use mathlib.Core.Path.{refl, sym, ◌∙◌}
use lib.Ieee.{div, neg, of_bits}
use Rattle.float.proofs.Flags.{failed, passed}
use Rattle.stops.proofs.Steady.{steady_infinite, steady_falls, steady_next, steady_end}
use Rattle.stops.proofs.rules.is_steady.Goals as goal
use Rattle.stops.proofs.rules.is_steady.Goals.{then-not-is_finite-via-then-not-is_finite, then-not-is_finite-via-else-not-is_finite+then-p-prev}

pub loop-p-init : goal.loop-p-init
unfolding div neg of_bits
loop-p-init c = refl

pub returns-then-not-is_finite : goal.returns-then-not-is_finite
returns-then-not-is_finite c =
    let l = c.loop-p in
    elim c.then-not-is_finite.branch [
      | then-not-is_finite-via-then-not-is_finite w ↦ sym (steady_infinite c.args.max c.args.positions.now l.p-index l.prev c.loop-p-test.true (failed w.if-not-is_finite.true c.is_finite.ensures)) ∙ l.invariant
      | then-not-is_finite-via-else-not-is_finite+then-p-prev w ↦ sym (steady_falls c.args.max c.args.positions.now l.p-index l.prev c.loop-p-test.true (passed w.if-not-is_finite.false c.is_finite.ensures) w.if-p-prev.true) ∙ l.invariant
    ]

pub loop-p-preserved : goal.loop-p-preserved
loop-p-preserved c =
    sym (steady_next c.args.max c.args.positions.now c.loop-p.p-index c.loop-p.prev c.loop-p-test.true (passed c.if-not-is_finite.false c.is_finite.ensures) c.if-p-prev.false) ∙ c.loop-p.invariant

pub returns : goal.returns
returns c = sym (steady_end c.args.max c.args.positions.now c.loop-p.p-index c.loop-p.prev c.loop-p-test.false) ∙ c.loop-p.invariant
