-- `from_end` meets its contract: a case for each half. Assumes nothing.
use borrow.Author.Tests.{le-leb, lt-leb}
use Rattle.sine.proofs.from_end.Goals as goal

pub returns-then-i-le512 : goal.returns-then-i-le512
returns-then-i-le512 c = rw (le-leb _ _ c.if-i-le512.true)

pub returns-else-i-le512 : goal.returns-else-i-le512
returns-else-i-le512 c = rw (lt-leb _ _ c.if-i-le512.false)
