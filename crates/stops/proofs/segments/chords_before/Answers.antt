-- `segments::chords_before` meets its contract: each branch of the code is a branch of the definition. Assumes nothing.
use mathlib.Core.Path.{◌∙◌}
use native.Mathlib.Omega.{arith}
use borrow.Author.Tests.{lt-ltb, le-ltb}
use Rattle.stops.proofs.segments.chords_before.Goals as goal

pub returns-then-k-gt1 : goal.returns-then-k-gt1
returns-then-k-gt1 c = simp (lt-ltb 1 c.args.k c.if-k-gt1.true)

pub returns-else-k-gt1 : goal.returns-else-k-gt1
returns-else-k-gt1 c = c.chords.ensures ∙ simp (le-ltb 1 c.args.k (omega (arith, c.if-k-gt1.false)))
