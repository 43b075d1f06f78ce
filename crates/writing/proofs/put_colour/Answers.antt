-- `put_colour` meets its contract: one field after the other. Assumes nothing.
use Rattle.writing.specs.Printed.{colour_text}
use native.Mathlib.Omega.{arith}
use Rattle.text.proofs.Putting.{puts_then}
use Rattle.writing.proofs.put_colour.Goals as goal

pub returns : goal.returns
unfolding colour_text
returns c = puts_then c.put_field-r.ensures (puts_then c.put_field-g.ensures (puts_then c.put_field-b.ensures (λ l. c.put_field.ensures))) (omega arith)
