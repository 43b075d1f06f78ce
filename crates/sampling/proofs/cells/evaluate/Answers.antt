-- `evaluate` meets its contract: GIMP segments, or stops at the place of t. Assumes nothing.
use mathlib.Core.Path.{ap, ◌∙◌}
use Rattle.sampling.specs.declared.Point.{Point}
use Rattle.sampling.proofs.Nearness.{by_gimp, by_stops, placed_is}
use Rattle.sampling.proofs.cells.evaluate.Goals as goal

pub returns-then-is_gimp : goal.returns-then-is_gimp
returns-then-is_gimp c =
    let a = c.args in
    by_gimp a.ramp.now.kind a.ramp.now.positions.now a.ramp.now.channels.now a.ramp.now.codes.now a.t a.guess c.is_gimp.ensures c.if-is_gimp.true c.colour_at-colour.ensures

pub told_at-requires : goal.told_at-requires
told_at-requires c =
    let a = c.args in
    ap (λ (p : Point). p.t) c.placed.ensures ∙ (placed_is a.ramp.now.kind a.ramp.now.positions.now a.ramp.now.channels.now a.t c.find_place-place.result).0

pub returns : goal.returns
returns c =
    let a = c.args in
    c.told_at.ensures
    ∙ by_stops a.ramp.now.kind a.ramp.now.positions.now a.ramp.now.channels.now a.ramp.now.codes.now a.t a.guess c.is_gimp.ensures c.if-is_gimp.false c.find_place-place.ensures c.placed.ensures
