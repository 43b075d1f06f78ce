-- `thin_points` meets its contract: what the whole list comes to stays the same from place to place. The measure is what is left of the list. Assumes nothing.
use mathlib.Core.Path.{◌∙◌}
use native.Mathlib.Omega.{arith}
use Rattle.sampling.proofs.Along.{along_point, along_carries}
use Rattle.gradient.specs.Lent.{lent_ramp}
use Rattle.gradient.specs.Ramp.{colour_of}
use Rattle.difference.specs.Difference.{exceeds}
use Rattle.places.proofs.Following.{before_next, more_follow}
use Rattle.linearize.proofs.Going.{started, next, stopped, ended}
use Rattle.linearize.proofs.listing.thin_points.Goals as goal

pub loop-place-init : goal.loop-place-init
loop-place-init c =
    let a = c.args in
    let g = colour_of (lent_ramp a.ramp.now) in
    let p = along_point _ c.requires.codes_value _ _ (λ d l. absurd (omega (arith, l))) c.evaluate_along-x.ensures in (
      started g (exceeds a.cutoff) a.room a.rows.now a.counts.now a.max c.requires.ready.0 a.start a.places.now a.colours.now c.next_place-place.result c.evaluate_along-x.result c.requires.ready.1 c.next_place-place.ensures (p.0 ∙ c.point_at.ensures) p.1,
      along_carries _ c.requires.codes_value _ _ (λ d l. absurd (omega (arith, l))) c.evaluate_along-x.ensures,
    )

pub shape_of-places-then-refusal-ne0 : goal.shape_of-places-then-refusal-ne0
shape_of-places-then-refusal-ne0 c =
    c.step-s.auto.places ∙ c.loop-place.invariant.0.places-length

pub shape_of-colours-then-refusal-ne0 : goal.shape_of-colours-then-refusal-ne0
shape_of-colours-then-refusal-ne0 c =
    c.step-s.auto.colours ∙ c.loop-place.invariant.0.colours-length

pub returns-then-refusal-ne0 : goal.returns-then-refusal-ne0
returns-then-refusal-ne0 c =
    let a = c.args in
    let l = c.loop-place in
    let g = colour_of (lent_ramp a.ramp.now) in
    let p = along_point _ c.requires.codes_value _ _ l.invariant.1 c.evaluate_along-next.ensures in
    stopped g (exceeds a.cutoff) a.room a.rows.now a.counts.now a.max c.requires.ready.0 _ l.places l.colours l.s l.place l.x l.invariant.0 c.loop-place-test.true c.next_place-after.result c.evaluate_along-next.result c.next_place-after.ensures (p.0 ∙ c.point_at-in-loop-place.ensures) p.1 c.step-s.new.places c.step-s.new.colours c.step-s.result c.step-s.ensures c.if-refusal-ne0.true

pub loop-place-smaller : goal.loop-place-smaller
loop-place-smaller c =
    let a = c.args in
    let ok = c.requires.ready.0 in
    let w = c.loop-place.invariant.0.within in
    rw c.next_place-after.ensures (omega (arith, before_next a.rows.now a.counts.now a.max ok c.loop-place.place w c.loop-place-test.true, more_follow a.rows.now a.counts.now a.max ok c.loop-place.place w c.loop-place-test.true))

pub loop-place-preserved : goal.loop-place-preserved
loop-place-preserved c =
    let a = c.args in
    let l = c.loop-place in
    let g = colour_of (lent_ramp a.ramp.now) in
    let p = along_point _ c.requires.codes_value _ _ l.invariant.1 c.evaluate_along-next.ensures in (
      next g (exceeds a.cutoff) a.room a.rows.now a.counts.now a.max c.requires.ready.0 _ l.places l.colours l.s l.place l.x l.invariant.0 c.loop-place-test.true c.next_place-after.result c.evaluate_along-next.result c.next_place-after.ensures (p.0 ∙ c.point_at-in-loop-place.ensures) p.1 c.step-s.new.places c.step-s.new.colours c.step-s.result c.step-s.ensures c.if-refusal-ne0.false c.step-s.auto.places c.step-s.auto.colours,
      along_carries _ c.requires.codes_value _ _ l.invariant.1 c.evaluate_along-next.ensures,
    )

pub shape_of-places : goal.shape_of-places
shape_of-places c =
    c.emit.auto.places ∙ c.loop-place.invariant.0.places-length

pub shape_of-colours : goal.shape_of-colours
shape_of-colours c =
    c.emit.auto.colours ∙ c.loop-place.invariant.0.colours-length

pub returns : goal.returns
returns c =
    let a = c.args in
    let l = c.loop-place in
    let g = colour_of (lent_ramp a.ramp.now) in
    ended g (exceeds a.cutoff) a.room a.rows.now a.counts.now a.max c.requires.ready.0 _ l.places l.colours l.s l.place l.x l.invariant.0 (λ h. absurd (omega (arith, h, c.loop-place-test.false))) c.emit.new.places c.emit.new.colours c.emit.result c.emit.ensures
