-- `stops::check` meets its contract. The loop's invariant: what is left to check, from stop i on, has the answer of the whole. Assumes nothing.
use mathlib.Core.Path.{sym, ◌∙◌, ap}
use lib.ListN.{length}
use lib.Ieee.{div, neg, of_bits}
use Rattle.float.proofs.Flags.{failed, passed}
use Rattle.stops.specs.Lent.{ramp_in}
use Rattle.stops.specs.Stops.{finite_rgba}
use Rattle.stops.proofs.Checking.{checks, not_shaped, if_shaped, bad_position, bad_colour, falls, next, done, from_start}
use Rattle.stops.proofs.rules.check.Goals as goal
use Rattle.stops.proofs.rules.check.Goals.{then-not-is_finite-via-then-not-is_finite, then-not-is_finite-via-else-not-is_finite+then-not-is_finite_colour}

pub returns-then-not-is_shaped : goal.returns-then-not-is_shaped
returns-then-not-is_shaped c =
    checks (not_shaped (ramp_in c.args.kind c.args.positions c.args.channels c.args.codes) (failed c.if-not-is_shaped.true c.is_shaped.ensures))

pub loop-i-init : goal.loop-i-init
unfolding div neg of_bits
loop-i-init c =
    from_start (length c.args.positions.now) c.args.positions.now c.args.channels.now
    ∙ sym (if_shaped (ramp_in c.args.kind c.args.positions c.args.channels c.args.codes) (passed c.if-not-is_shaped.false c.is_shaped.ensures))

pub returns-then-not-is_finite : goal.returns-then-not-is_finite
returns-then-not-is_finite c =
    let l = c.loop-i in
    let ps = c.args.positions.now in
    let cs = c.args.channels.now in
    let h = c.loop-i-test.true in
    checks (elim c.then-not-is_finite.branch [
      | then-not-is_finite-via-then-not-is_finite w ↦ sym (bad_position _ l.i l.prev ps cs h (failed w.if-not-is_finite.true c.is_finite.ensures)) ∙ l.invariant
      | then-not-is_finite-via-else-not-is_finite+then-not-is_finite_colour w ↦
          sym (bad_colour _ l.i l.prev ps cs h
          (passed w.if-not-is_finite.false c.is_finite.ensures)
          (failed w.if-not-is_finite_colour.true (w.is_finite_colour.ensures ∙ ap finite_rgba w.colour.ensures)))
          ∙ l.invariant
    ])

pub returns-then-p-prev : goal.returns-then-p-prev
returns-then-p-prev c =
    let l = c.loop-i in
    let colour_fine = passed c.if-not-is_finite_colour.false (c.is_finite_colour.ensures ∙ ap finite_rgba c.colour.ensures) in
    checks (sym (falls _ l.i l.prev _ _ c.loop-i-test.true (passed c.if-not-is_finite.false c.is_finite.ensures) colour_fine c.if-p-prev.true) ∙ l.invariant)

pub loop-i-preserved : goal.loop-i-preserved
loop-i-preserved c =
    let l = c.loop-i in
    let colour_fine = passed c.if-not-is_finite_colour.false (c.is_finite_colour.ensures ∙ ap finite_rgba c.colour.ensures) in
    sym (next _ l.i l.prev _ _ c.loop-i-test.true (passed c.if-not-is_finite.false c.is_finite.ensures) colour_fine c.if-p-prev.false) ∙ l.invariant

pub returns : goal.returns
returns c = checks (sym (done _ c.loop-i.i c.loop-i.prev _ _ c.loop-i-test.false) ∙ c.loop-i.invariant)
