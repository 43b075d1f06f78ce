-- `put_colour` meets its contract: one field after the other. Assumes nothing.
use native.Mathlib.Omega.{arith}
use Rattle.ggr_writing.specs.File.{spaced_colour}
use Rattle.text.proofs.Putting.{puts_then}
use Rattle.ggr_writing.proofs.lines.put_colour.Goals as goal

pub returns : goal.returns
unfolding spaced_colour
returns c = puts_then c.put_field-r.ensures (puts_then c.put_field-g.ensures (puts_then c.put_field-b.ensures (λ l. c.put_field.ensures))) (omega arith)
