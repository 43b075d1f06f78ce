-- `output::put_decimal` meets its contract: the last digit follows those before it. Assumes nothing.
use native.Mathlib.Omega.{arith}
use Rattle.text.proofs.Putting.{decimal_none, decimal_last, decimal_more}
use Rattle.text.proofs.output.+put_decimal.Goals as goal

pub returns-then-left-eq0 : goal.returns-then-left-eq0
returns-then-left-eq0 t c = decimal_none c.args.out.now c.args.at c.args.n c.args.left (omega arith) c.if-left-eq0.true

pub returns-then-n-lt10 : goal.returns-then-n-lt10
returns-then-n-lt10 t c = decimal_last c.args.n c.args.left c.if-left-eq0.false c.if-n-lt10.true c.put.ensures

pub returns : goal.returns
returns t c = decimal_more c.args.n c.args.left c.if-left-eq0.false c.if-n-lt10.false c.put_decimal-next.ensures c.put-2.ensures (omega arith)
