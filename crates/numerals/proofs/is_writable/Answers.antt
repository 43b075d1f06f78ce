-- `is_writable` meets its contract. Assumes nothing.
use Rattle.numerals.proofs.Range.{writes_nan, writes_small, writes_large}
use Rattle.numerals.proofs.is_writable.Goals as goal

pub returns-then-x : goal.returns-then-x
returns-then-x c = writes_nan c.args.x c.if-x.true

pub returns-then-size : goal.returns-then-size
returns-then-size c = writes_small c.args.x c.magnitude-size.result c.magnitude-size.ensures c.if-size.true

pub returns : goal.returns
returns c = writes_large c.args.x c.magnitude-size.result c.if-x.false c.magnitude-size.ensures c.if-size.false
