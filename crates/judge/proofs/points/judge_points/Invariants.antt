-- `judge_points` meets its contract: the verdict on the rows that are left is that on all. Assumes nothing.
use mathlib.Core.Path.{◌≡◌}
use Rattle.gradient.specs.Lent.{lent_ramp}
use Rattle.judge.specs.Lists.{offer_of}
use Rattle.judge.specs.inner.Steps.{any_close, record_verdict}
use Rattle.judge.proofs.Answering.{onwards}
use Rattle.judge.proofs.points.judge_points.Given as goal

abbrev pub invariant-loop-i : goal.invariant-loop-i
invariant-loop-i l =
    let near = any_close (lent_ramp l.ramp) (offer_of l.places l.colours) l.threshold in
    onwards near l.rows l.counts l.max l.i ≡ record_verdict near l.rows l.counts l.max
