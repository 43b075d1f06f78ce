-- A clear channel is an f32 from 0 to 1. It is finite, and a whole number of units of 2 ^ -149. Assumes nothing.
use lib.Dec.{T}
use lib.Ieee.{Float, binary32, of_bits, fits, le}
use lib.Ieee.Scale.{finite}
use Rattle.float.specs.F32.{f0, f1}
use Rattle.float.specs.Units.{count}
use Rattle.float.proofs.Order as order
use Rattle.float.proofs.UnitSums.{Counted}
use Rattle.float.proofs.OperationsOff.{counted_up}

pub record Clear (x : Float) : Type 0 where
  pub single : T (fits binary32 x)
  pub low : T (le f0 x)
  pub high : T (le x f1)

ends : T (finite f0) × T (finite f1)
unfolding of_bits
ends = (tt, tt)

pub clear_finite : (x : Float) → Clear x → T (finite x)
clear_finite x w = order.finite_between f0 x f1 ends.0 ends.1 w.low w.high

pub clear_counted : (x : Float) → Clear x → Counted x (count x) 0
clear_counted x w = counted_up x w.single (clear_finite x w) w.low
