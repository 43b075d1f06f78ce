-- `stops::check` meets its contract. The loop's invariant: what is left to check, from stop i on, has the answer of the whole. Assumes nothing.
use mathlib.Core.Path.{◌≡◌}
use Prim.Native.Nat.{◌-◌}
use Rattle.stops.specs.Lent.{ramp_of}
use Rattle.stops.specs.Stops.{each_stop, stops_check}
use Rattle.stops.proofs.rules.check.Given as goal

abbrev pub invariant-loop-i : goal.invariant-loop-i
invariant-loop-i l = each_stop (l.n - l.i) l.i l.prev l.positions l.channels ≡ stops_check (ramp_of l.fn.kind l.positions l.channels l.codes)
