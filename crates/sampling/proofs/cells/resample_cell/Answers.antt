-- `resample_cell` meets its contract: a kept cell changes nothing; another is sampled from its left end to its right. Assumes nothing.
use mathlib.Core.Path.{refl}
use native.Mathlib.Omega.{arith}
use Rattle.sampling.proofs.Rows.{count_most, tries_few, cell_anew}
use Rattle.sampling.proofs.Renewing.{cell_kept, cell_redone}
use borrow.Author.Rules.{rules}
use Rattle.sampling.proofs.cells.resample_cell.Goals as goal

pub returns-then-kept : goal.returns-then-kept
returns-then-kept c =
    record { cell_carried = cell_kept _ _ _ _ _ _ _ _ c.if-kept.true refl c.requires.reaches.carries.few; carrying = c.requires.reaches.drawn }

pub left_end-p-requires : goal.left_end-p-requires
left_end-p-requires c =
    record { i_le_cells = omega (arith, c.requires.i_lt_cells.0); reaches = c.requires.reaches }

pub end_at-q-requires : goal.end_at-q-requires
end_at-q-requires c =
    record { i_le_cells = (omega (arith, c.requires.i_lt_cells.0), c.requires.reaches.fine); carrying = c.left_end-p.ensures.1 }

pub overflow_mul-a : goal.overflow_mul-a
overflow_mul-a c = omega (arith, c.requires.i_lt_cells.0)

pub overflow_add-e : goal.overflow_add-e
overflow_add-e c = omega (arith, c.requires.i_lt_cells.0)

pub offset_bounds-rows-a : goal.offset_bounds-rows-a
offset_bounds-rows-a c = omega (arith, c.requires.i_lt_cells.0)

pub slice_bounds-row-end : goal.slice_bounds-row-end
slice_bounds-row-end c =
    omega (arith, c.requires.i_lt_cells.0, c.requires.i_lt_cells.1.0)

pub row_into-h-requires : goal.row_into-h-requires
row_into-h-requires c =
    let p = c.left_end-p.ensures in
    let q = c.end_at-q.ensures in
    record { row_len = search rules; drawn_between = record { between = record { fine = c.requires.reaches.fine; left = p.0.1; right = q.0.1 }; left_drawn = p.1; right_drawn = q.1 } }

pub overflow_cast-counts : goal.overflow_cast-counts
overflow_cast-counts c = omega (arith, count_most _ _ _ _ _ _ c.row_into-h.ensures)

pub bounds-counts-i : goal.bounds-counts-i
bounds-counts-i c =
    omega (arith, c.requires.i_lt_cells.0, c.requires.i_lt_cells.1.1)

pub overflow_add-result : goal.overflow_add-result
overflow_add-result c =
    omega (arith, tries_few _ _ _ _ _ _ _ _ c.requires.i_lt_cells.0 c.requires.reaches.carries.few c.row_into-h.ensures)

pub returns : goal.returns
returns c =
    let a = c.args in
    let p = c.left_end-p.ensures.0 in
    let q = c.end_at-q.ensures in
    let w = cell_anew _ _ a.task.min a.task.max a.i _ _ p.0 q.0.0 a.rows.now c.row_into-h.new.row a.counts.now c.row_into-h.result c.requires.i_lt_cells.0 c.requires.i_lt_cells.1.0 c.row_into-h.ensures in
    record { cell_carried = cell_redone _ _ _ _ _ _ _ _ _ _ c.if-kept.false q.0 c.requires.reaches.carries.few w; carrying = q.1 }
