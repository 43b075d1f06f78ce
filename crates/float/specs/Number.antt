-- What the source takes from the language: the sign cleared, the clamp, the whole part. `finite` is lib.Ieee.Scale's.
use Rattle.std.specs.Prelude.{false, cond, ℤ, pos, T, ℕ, ◌+◌, ◌-◌}
use lib.Ieee.{Float, nan, inf, fin, binary32, eq, lt, neg, fits, of_int, of_bits, to_bits, to_signed}
use Rattle.float.specs.F32.{f0, f1}

-- the sign cleared
unfoldable pub magnitude_of : Float → Float
magnitude_of nan = nan
magnitude_of (inf s) = inf false
magnitude_of (fin s m e) = fin false m e

-- below 0 to 0, above 1 to 1, else unchanged: -0 and not-a-number stay
unfoldable pub clamp_of : Float → Float
clamp_of x = cond (lt x f0) f0 (cond (lt f1 x) f1 x)

-- the whole part toward zero, as a signed number; beyond 64 bits the nearest end, and 0 for not-a-number
abbrev pub whole_of : Float → ℤ
whole_of x = to_signed 63 x

-- a whole number as an f32
abbrev pub count_of : ℕ → Float
count_of i = of_int binary32 (pos i)

-- the f32 just above a number; above 0, whatever its sign, is the least of all; above infinity and not-a-number is not-a-number
unfoldable pub above_of : Float → Float
above_of x =
    cond (eq x f0) (of_bits binary32 1)
    (cond (lt x f0) (neg (of_bits binary32 (to_bits binary32 (magnitude_of x) - 1))) (of_bits binary32 (to_bits binary32 (magnitude_of x) + 1)))

-- and just below it
unfoldable pub below_of : Float → Float
below_of x = neg (above_of (neg x))

-- below 2 ^ 127 in size, so that the sum of two is finite
abbrev pub top : Float
top = of_bits binary32 0x7f00_0000

pub record Within (x : Float) : Type 0 where
  pub one : T (fits binary32 x)
  pub low : T (lt (neg top) x)
  pub high : T (lt x top)
