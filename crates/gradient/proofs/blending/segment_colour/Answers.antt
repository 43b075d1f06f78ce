-- `blending::segment_colour` meets its contract: what the calls ensure, put together. Assumes nothing.
use Rattle.gradient.proofs.GimpLaws.{by_cost, by_wave, by_rest, segment_coloured}
use Rattle.gradient.proofs.blending.segment_colour.Goals as goal

pub returns-then-is_costly : goal.returns-then-is_costly
returns-then-is_costly c =
    segment_coloured _ _ c.place_along-pivot.ensures c.place_along-place.ensures (by_cost _ _ _ c.is_costly.ensures c.if-is_costly.true c.blend_costly.ensures)

pub returns-then-g-eq-SINUSOIDAL : goal.returns-then-g-eq-SINUSOIDAL
returns-then-g-eq-SINUSOIDAL c =
    segment_coloured _ _ c.place_along-pivot.ensures c.place_along-place.ensures (by_wave _ _ _ c.is_costly.ensures c.if-is_costly.false c.if-g-eq-SINUSOIDAL.true c.blend_wave.ensures)

pub returns : goal.returns
returns c =
    segment_coloured _ _ c.place_along-pivot.ensures c.place_along-place.ensures (by_rest _ _ _ c.is_costly.ensures c.if-is_costly.false c.if-g-eq-SINUSOIDAL.false c.blend.ensures)
