-- `segment` meets its contract: out of the table, or worked out. Assumes nothing.
use mathlib.Core.Path.{◌∙◌}
use Rattle.stops.proofs.Tables.{segment_before, segment_there, segment_made}
use Rattle.stops.proofs.segments.segment.Goals as goal
use Rattle.stops.proofs.segments.segment.Goals.{else-base-k-via-then-base-k+else-k-base, else-base-k-via-else-base-k}

pub returns-then-k-base : goal.returns-then-k-base
returns-then-k-base c = segment_there _ _ _ _ _ c.if-base-k.true c.if-k-base.true

pub returns-else-base-k : goal.returns-else-base-k
returns-else-base-k c =
    c.segment_for.ensures ∙ elim c.else-base-k.branch [
      | else-base-k-via-then-base-k+else-k-base w ↦ segment_made _ _ _ _ _ w.if-base-k.true w.if-k-base.false
      | else-base-k-via-else-base-k w ↦ segment_before _ _ _ _ _ w.if-base-k.false
    ]
