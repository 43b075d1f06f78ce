-- `step` meets its contract: the point weighed is kept or not. Assumes nothing.
use mathlib.Core.Path.{◌∙◌}
use borrow.Author.Tests.{not-true, not-false}
use Rattle.difference.specs.Difference.{exceeds}
use Rattle.thinning.specs.Walk.{run}
use Rattle.thinning.proofs.Walks.{passed_run, kept_run}
use Rattle.thinning.proofs.step.Goals as goal

pub returns-then-not-w : goal.returns-then-not-w
returns-then-not-w c =
    let a = c.args in
    passed_run (exceeds a.cutoff) a.room (run a.s a.places.now a.colours.now) a.x a.next c.weigh-w.ensures c.sum.ensures (not-true _ c.if-not-w.true)

pub returns : goal.returns
returns c =
    let a = c.args in
    c.emit.ensures
    ∙ kept_run (exceeds a.cutoff) a.room (run a.s a.places.now a.colours.now) a.x a.next c.weigh-w.ensures c.sum.ensures (not-false _ c.if-not-w.false)
