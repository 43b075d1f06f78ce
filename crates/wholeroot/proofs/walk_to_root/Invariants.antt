-- `wholeroot::walk_to_root` meets its contract. The first loop comes down to a q whose square less q is below n, and keeps q under 2 ^ 32. The second goes up, and keeps that: n is no more than (2 ^ 32 - 1) * 2 ^ 32, so q stays under 2 ^ 32. Assumes nothing.
use Rattle.std.proofs.Common.{ℕ, ◌+◌, ◌-◌, ◌*◌, ◌^◌, ◌<◌, ◌≤◌}
use Rattle.wholeroot.proofs.walk_to_root.Given as goal

abbrev pub last : ℕ
last = (2 ^ 32 - 1) * 2 ^ 32

abbrev pub invariant-loop-q : goal.invariant-loop-q
invariant-loop-q l = (l.q < 2 ^ 32) × (0 < l.n) × (l.n ≤ last)

abbrev pub decreases-loop-q : goal.decreases-loop-q
decreases-loop-q l = l.q

abbrev pub invariant-loop-q-2 : goal.invariant-loop-q-2
invariant-loop-q-2 l = (l.q * l.q < l.n + l.q) × (l.n ≤ last)

abbrev pub decreases-loop-q-2 : goal.decreases-loop-q-2
decreases-loop-q-2 l = 2 ^ 33 - l.q
