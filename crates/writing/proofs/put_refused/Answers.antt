-- `put_refused` meets its contract: its word and the number. Assumes nothing.
use native.Mathlib.Omega.{arith}
use Rattle.writing.specs.Printed.{refused_text}
use Rattle.writing.proofs.Lengths.{length_refused}
use Rattle.text.proofs.Putting.{whole}
use Rattle.writing.proofs.put_refused.Goals as goal

pub returns : goal.returns
unfolding refused_text
returns c = whole c.put_line.ensures (omega (arith, length_refused c.args.number))
