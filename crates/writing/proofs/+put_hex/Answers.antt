-- `put_hex` meets its contract: the last digit follows those before it. Assumes nothing.
use native.Mathlib.Omega.{arith}
use Rattle.writing.proofs.Texts.{hex_none, hex_more}
use Rattle.writing.proofs.+put_hex.Goals as goal

pub returns-then-left-eq0 : goal.returns-then-left-eq0
returns-then-left-eq0 t c = hex_none c.args.out.now c.args.at c.args.n c.args.left (omega arith) c.if-left-eq0.true

pub returns : goal.returns
returns t c = hex_more c.args.n c.args.left c.if-left-eq0.false c.hex_digit-digit.ensures c.put_hex-next.ensures c.put.ensures (omega arith)
