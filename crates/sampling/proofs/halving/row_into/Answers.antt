-- `row_into` meets its contract: the left end, the midpoints kept, then +0. Assumes nothing.
use mathlib.Core.Path.{◌∙◌}
use native.Mathlib.Omega.{arith}
use lib.ListN.{length-set}
use Rattle.sampling.proofs.Rows.{row_is}
use Rattle.sampling.proofs.halving.row_into.Goals as goal

pub halve_cell-h-requires : goal.halve_cell-h-requires
halve_cell-h-requires c = record { row_len = simp length-set (omega (arith, c.requires.row_len)); drawn_between = c.requires.drawn_between }

pub shape_of-row : goal.shape_of-row
shape_of-row c =
    c.zero_from.auto.out ∙ c.halve_cell-h.auto.row ∙ simp length-set

pub returns : goal.returns
returns c =
    let a = c.args in
    row_is _ _ a.p.t a.q.t a.row.now c.halve_cell-h.new.row _ c.halve_cell-h.result c.requires.row_len c.halve_cell-h.ensures c.zero_from.ensures
