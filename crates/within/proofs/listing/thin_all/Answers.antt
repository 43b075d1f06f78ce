-- `thin_all` meets its contract: a stop for min, and then those after it. Assumes nothing.
use mathlib.Core.Path.{◌≡◌, sym, subst}
use lib.ListN.{replicate, length-replicate}
use lib.Ieee.{Float}
use Rattle.float.specs.F32.{f0}
use Rattle.gradient.specs.Lent.{lent_ramp}
use Rattle.gradient.specs.Ramp.{colour_of}
use Rattle.sampling.specs.inner.Steps.{PointAt}
use Rattle.sampling.specs.declared.Point.{Point}
use Rattle.sampling.proofs.Nearness.{near_point}
use Rattle.within.specs.inner.Weighing.{near_by, whole_ending, EndsWith}
use Rattle.within.proofs.Emitting.{last_is, first_refused, then_rest}
use Rattle.within.proofs.listing.thin_all.Goals as goal

pub returns-then-refusal-ne0 : goal.returns-then-refusal-ne0
returns-then-refusal-ne0 c =
    let a = c.args in
    let g = colour_of (lent_ramp a.ramp.now) in
    let first : PointAt g a.min c.evaluate-first.result = near_point _ c.requires.0 _ _ _ c.evaluate-first.ensures in
    first_refused g (near_by a.offs) a.max a.room a.count a.ts.now a.marks.now a.places.now a.colours.now c.evaluate-first.result first.1 c.emit-s.result c.emit-s.new.places c.emit-s.new.colours c.emit-s.ensures a.min first.0 c.if-refusal-ne0.true

pub thin_sites-requires : goal.thin_sites-requires
thin_sites-requires c =
    let a = c.args in
    let g = colour_of (lent_ramp a.ramp.now) in
    let first : PointAt g a.min c.evaluate-first.result = near_point _ c.requires.0 _ _ _ c.evaluate-first.ensures in
    let end : PointAt g a.max c.evaluate-end.result = near_point _ c.requires.0 _ _ _ c.evaluate-end.ensures in
    let l = last_is g a.room 0 a.places.now a.colours.now c.evaluate-first.result first.1 c.emit-s.result c.emit-s.new.places c.emit-s.new.colours c.emit-s.ensures c.if-refusal-ne0.false in
    record {
      codes_value = (c.requires.0, (c.requires.1, (c.if-refusal-ne0.false, length-replicate 1024 (replicate 4 f0))));
      coloured = (subst (λ (p : Point). p.colour ≡ g p.t) (sym l) first.1, end.1);
    }

pub returns : goal.returns
returns c =
    let a = c.args in
    let g = colour_of (lent_ramp a.ramp.now) in
    let first : PointAt g a.min c.evaluate-first.result = near_point _ c.requires.0 _ _ _ c.evaluate-first.ensures in
    let end : PointAt g a.max c.evaluate-end.result = near_point _ c.requires.0 _ _ _ c.evaluate-end.ensures in
    subst
    (λ (x : Float). EndsWith (whole_ending (lent_ramp a.ramp.now) a.offs a.room a.count a.min x a.ts.now a.marks.now a.places.now a.colours.now) c.thin_sites.result c.thin_sites.new.places c.thin_sites.new.colours)
    end.0
    (then_rest g (near_by a.offs) c.evaluate-end.result.t a.room a.count a.ts.now a.marks.now a.places.now a.colours.now c.evaluate-first.result first.1 c.emit-s.result c.emit-s.new.places c.emit-s.new.colours c.emit-s.ensures a.min first.0 c.if-refusal-ne0.false _ _ _ c.thin_sites.ensures)
