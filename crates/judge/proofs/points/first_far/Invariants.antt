-- `first_far` meets its contract: the first failing of the points that are left is that of all. Assumes nothing.
use mathlib.Core.Path.{◌≡◌}
use Prim.Native.Nat.{◌+◌, ◌-◌}
use lib.ListN.{get_or}
use lib.Ieee.{nan}
use Rattle.gradient.specs.Lent.{lent_ramp}
use Rattle.judge.specs.Lists.{offer_of, first_failing}
use Rattle.judge.specs.inner.Steps.{any_close, far_from}
use Rattle.judge.proofs.points.first_far.Given as goal

abbrev pub invariant-loop-j : goal.invariant-loop-j
invariant-loop-j l =
    first_failing (λ k. any_close (lent_ramp l.ramp) (offer_of l.places l.colours) l.threshold (get_or l.rows (l.at + k) nan)) (l.count - l.j) l.j
    ≡ far_from (any_close (lent_ramp l.ramp) (offer_of l.places l.colours) l.threshold) l.rows l.at l.count
