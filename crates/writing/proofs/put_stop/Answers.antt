-- `put_stop` meets its contract: the word, then the fields. Assumes nothing.
use Rattle.writing.specs.Printed.{stop_text}
use native.Mathlib.Omega.{arith}
use Rattle.text.proofs.Putting.{puts_then}
use Rattle.writing.proofs.put_stop.Goals as goal

pub returns : goal.returns
unfolding stop_text
returns c = puts_then c.put_all-word.ensures (puts_then c.put_field-position.ensures (puts_then c.put_colour-colour.ensures (λ l. c.put.ensures))) (omega arith)
