-- `point_at` meets its contract: a row's point, or max. Assumes nothing.
use mathlib.Core.Path.{◌∙◌}
use lib.Ieee.{div, neg, of_bits}
use Rattle.places.proofs.Following.{point_in, point_past, point_end}
use Rattle.places.proofs.point_at.Goals as goal

pub returns-then-index-rows : goal.returns-then-index-rows
returns-then-index-rows c =
    let a = c.args in
    c.item.ensures ∙ point_in a.rows.now a.max a.place c.if-row-lt-CELLS.true

pub returns-then-row-lt-CELLS : goal.returns-then-row-lt-CELLS
unfolding div neg of_bits
returns-then-row-lt-CELLS c =
    let a = c.args in
    point_past a.rows.now a.max a.place c.if-row-lt-CELLS.true c.if-index-rows.false

pub returns : goal.returns
returns c = let a = c.args in point_end a.rows.now a.max a.place c.if-row-lt-CELLS.false
