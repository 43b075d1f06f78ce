-- `put_line` meets its contract: the word, the number, the end. Assumes nothing.
use Rattle.writing.specs.Printed.{line_text}
use native.Mathlib.Omega.{arith}
use Rattle.text.proofs.Putting.{puts_then}
use Rattle.writing.proofs.put_line.Goals as goal

pub returns : goal.returns
unfolding line_text
returns c = puts_then c.put_all-next.ensures (puts_then c.put_decimal-end.ensures (λ l. c.put.ensures)) (omega arith)
