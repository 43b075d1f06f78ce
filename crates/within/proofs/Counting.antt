-- How many points are weighed: no more than the record has and three for each position. Assumes nothing.
use Prim.Native.Nat.{◌+◌, ◌≤◌}
use mathlib.Core.List.{List}
use native.Mathlib.Omega.{arith}
use lib.ListN.{length}
use lib.Ieee.{Float}
use Rattle.stops.specs.Lent.{Ramp}
use Rattle.gradient.specs.Ramp.{min_of, max_of}
use Rattle.weighed.specs.Points.{own_of, sites_of}
use Rattle.weighed.proofs.Counting.{own_length, merged-length}
use Rattle.within.specs.Lists.{evaluations_within}

-- of a record of 4,608 points at most, max after them, and 2,048 positions at most: 10,755 at most
pub evaluations_most : (ramp : Ramp) (asked hold : Float) (ts : List Float) → length ts ≤ 4609 → length ramp.positions ≤ 2048 → evaluations_within ramp asked hold ts ≤ 10755
unfolding evaluations_within sites_of
evaluations_most ramp asked hold ts a b =
    omega (arith, merged-length (max_of ramp) (length ts + length (own_of ramp.positions)) (min_of ramp) ts (own_of ramp.positions), own_length ramp.positions)
