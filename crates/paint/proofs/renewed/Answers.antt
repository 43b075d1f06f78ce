-- `renewed` meets its contract: the same pair has the same segment, and another one's is in the table or worked out. Assumes nothing.
use mathlib.Core.Path.{sym, ◌∙◌, ap}
use Prim.Native.Nat.{ℕ}
use Rattle.stops.specs.Near.{segment_for}
use Rattle.stops.proofs.Tables.{segment_same}
use Rattle.paint.proofs.renewed.Goals as goal

pub returns-then-j-k : goal.returns-then-j-k
returns-then-j-k c = c.requires.s_value ∙ ap (λ (i : ℕ). segment_for c.args.channels.now c.args.n i) (sym c.if-j-k.true)

pub returns-else-j-k : goal.returns-else-j-k
returns-else-j-k c = c.segment.ensures ∙ segment_same _ _ _ _ _ c.requires.segments
