-- `evaluate_along` meets its contract: the point as it is, or by its pair, drawn. Assumes nothing.
use mathlib.Core.Path.{ap, ◌∙◌}
use Rattle.sampling.specs.declared.Point.{Point}
use Rattle.sampling.proofs.Along.{along_plain, along_drawn}
use Rattle.sampling.proofs.Nearness.{near_t}
use Rattle.sampling.proofs.cells.evaluate_along.Goals as goal

pub told_at-requires : goal.told_at-requires
told_at-requires c = ap (λ (p : Point). p.t) c.evaluate.ensures ∙ near_t _ _ _

pub returns-then-not-is_catmull_rom : goal.returns-then-not-is_catmull_rom
returns-then-not-is_catmull_rom c =
    let a = c.args in
    along_plain a.ramp.now.kind a.ramp.now.positions.now a.ramp.now.channels.now a.ramp.now.codes.now a.t a.guess a.drawn.now c.is_catmull_rom.ensures (c.if-not-is_catmull_rom.true) (c.told_at.ensures ∙ c.evaluate.ensures)

pub told_at-requires-2 : goal.told_at-requires-2
told_at-requires-2 c = ap (λ (p : Point). p.t) c.drawn_at.ensures.point

pub returns : goal.returns
returns c =
    let drawn = c.drawn_at.ensures in
    let a = c.args in
    along_drawn a.ramp.now.kind a.ramp.now.positions.now a.ramp.now.channels.now a.ramp.now.codes.now a.t a.guess a.drawn.now c.is_catmull_rom.ensures (c.if-not-is_catmull_rom.false) c.find_place-place.ensures
    (record { drawn = drawn.drawn; point = c.told_at-2.ensures ∙ drawn.point })
