-- `put_unread` meets its contract: its word and the number. Assumes nothing.
use native.Mathlib.Omega.{arith}
use Rattle.writing.specs.Printed.{unread_text}
use Rattle.writing.proofs.Lengths.{length_unread}
use Rattle.text.proofs.Putting.{whole}
use Rattle.writing.proofs.put_unread.Goals as goal

pub returns : goal.returns
unfolding unread_text
returns c = whole c.put_line.ensures (omega (arith, length_unread c.args.line))
