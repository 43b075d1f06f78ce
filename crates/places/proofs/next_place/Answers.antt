-- `next_place` meets its contract: the same row, or the next. Assumes nothing.
use native.Mathlib.Omega.{arith}
use Rattle.places.proofs.Following.{row_on, row_done, same_row, next_row, past_rows}
use Rattle.places.proofs.next_place.Goals as goal

pub overflow_add-result : goal.overflow_add-result
overflow_add-result c =
    omega (arith, row_on _ _ _ c.count_at.ensures c.goes_on.ensures c.if-goes_on.true, c.shared_slice_known-1.given c.args.place.row)

pub returns-then-goes_on : goal.returns-then-goes_on
returns-then-goes_on c =
    let a = c.args in
    same_row a.counts.now a.place (row_on _ _ _ c.count_at.ensures c.goes_on.ensures c.if-goes_on.true)

pub returns-then-row-lt-CELLS : goal.returns-then-row-lt-CELLS
returns-then-row-lt-CELLS c =
    let a = c.args in
    next_row a.counts.now a.place (row_done _ _ _ c.count_at.ensures c.goes_on.ensures c.if-goes_on.false) c.if-row-lt-CELLS.true

pub returns : goal.returns
returns c =
    let a = c.args in
    past_rows a.counts.now a.place (row_done _ _ _ c.count_at.ensures c.goes_on.ensures c.if-goes_on.false) c.if-row-lt-CELLS.false
