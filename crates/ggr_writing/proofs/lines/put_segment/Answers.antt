-- `put_segment` meets its contract: number after number, then the codes. Assumes nothing.
use native.Mathlib.Omega.{arith}
use Rattle.ggr_writing.specs.File.{segment_text}
use Rattle.text.proofs.Putting.{puts_then}
use Rattle.ggr_writing.proofs.lines.put_segment.Goals as goal

pub returns : goal.returns
unfolding segment_text
returns c = puts_then c.put_field-left.ensures (puts_then c.put_field-middle.ensures (puts_then c.put_field-right.ensures (puts_then c.put_colour-from.ensures (puts_then c.put_colour-to.ensures (λ l. c.put_all.ensures))))) (omega arith)
