-- `merge_all` meets its contract: what was taken and what is to come stay the same list. The measure is what is left. Assumes nothing.
use Rattle.weighed.specs.inner.Joining.{steps_left}
use Rattle.weighed.proofs.Gathering.{Merging}
use Rattle.weighed.proofs.merge_all.Given as goal

abbrev pub invariant-loop-s : goal.invariant-loop-s
invariant-loop-s l = Merging l.positions l.rows l.counts l.min l.max l.initial.ts l.initial.marks l.ts l.marks l.s

abbrev pub decreases-loop-s : goal.decreases-loop-s
decreases-loop-s l = steps_left l.positions l.rows l.counts l.max l.s
