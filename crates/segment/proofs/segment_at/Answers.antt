-- `segment_at` meets its contract: a row of the right length is a segment. Assumes nothing.
use Rattle.segment.proofs.Rows.{segment_none, segment_some}
use Rattle.segment.proofs.segment_at.Goals as goal

pub returns-else-makes_segment : goal.returns-else-makes_segment
returns-else-makes_segment c = let a = c.args in
    segment_none a.rules a.fg a.bg (rw c.notation.ensures at c.row_at-row.ensures) c.makes_segment.ensures (c.if-makes_segment.false)

pub returns-then-makes_segment : goal.returns-then-makes_segment
returns-then-makes_segment c = let a = c.args in
    segment_some a.rules a.fg a.bg (rw c.notation.ensures at c.row_at-row.ensures) c.makes_segment.ensures (c.if-makes_segment.true) _ c.built-read.ensures
