-- The depth of a number strictly between 0 and 1: how many halvings lead from 1 down to it, which is its logarithm to base 2 with the sign turned. In f32, each operation rounded once.
use Rattle.std.specs.Prelude.{ℕ, ◌+◌, ◌-◌, ◌*◌, ◌/◌, ◌%◌, ◌^◌, ◌≡◌, cond, T, ltb, Float}
use Rattle.std.specs.Float.{binary32}
use Rattle.std.specs.Float.Ieee.{fits, of_bits, to_bits, le, lt}
use Rattle.float.specs.F32.{◌⊕◌, ◌⊖◌, ◌⊗◌, ◌⊘◌, f1, half}
use Rattle.float.specs.Number.{count_of}
use Rattle.float.specs.Units.{count}

-- 2.88539, 0.96193, 0.5707, 0.498
abbrev pub a0 : Float
a0 = of_bits binary32 0x4038_aa3b

abbrev pub a1 : Float
a1 = of_bits binary32 0x3f76_410b

abbrev pub a2 : Float
a2 = of_bits binary32 0x3f12_1965

abbrev pub a3 : Float
a3 = of_bits binary32 0x3efe_f9db

-- with z = s·s: s·(2.88539 + z·(0.96193 + z·(0.5707 + z·0.498)))
unfoldable pub series_of : Float → Float
series_of s = s ⊗ (a0 ⊕ s ⊗ s ⊗ (a1 ⊕ s ⊗ s ⊗ (a2 ⊕ s ⊗ s ⊗ a3)))

-- the part of m, from 1/2 to below 1: with s = (1 - m) / (1 + m)
unfoldable pub part_of : Float → Float
part_of m = series_of ((f1 ⊖ m) ⊘ (f1 ⊕ m))

-- A pattern b is an exponent's field e, above 0, and digits below it. The same digits below the field of 1/2 are m, from 1/2 to below 1, and b stands for m·2^-(126 - e).
-- So with 126 for `most` this is k and the part of m, where k is 126 - e.
unfoldable pub level_of : ℕ → ℕ → Float
level_of b most = count_of (most - b / 2 ^ 23) ⊕ part_of (of_bits binary32 (0x3f00_0000 + b % 2 ^ 23))

-- 2^24
abbrev pub lift : Float
lift = of_bits binary32 0x4b80_0000

-- A subnormal, whose pattern is below 2^23, has a field of 0. Its 2^24th multiple has a field above 0, the same m, and a k that is 24 less: so 150 for 126.
unfoldable pub depth_of : Float → Float
depth_of x = cond (ltb (to_bits binary32 x) (2 ^ 23)) (level_of (to_bits binary32 (x ⊗ lift)) 150) (level_of (to_bits binary32 x) 126)

-- What is proved of it (`split`, in proofs/Halved): the f32 x is m·2^-k, with m from 1/2 to below 1, and its depth is k and the part of m. `count` is the number in units of 2^-149.
pub record Split (x : Float) : Type 0 where
  pub k : ℕ
  pub m : Float
  pub one : T (fits binary32 m)
  pub low : T (le half m)
  pub high : T (lt m f1)
  pub exact : count m ≡ count x * 2 ^ k
  pub is : depth_of x ≡ count_of k ⊕ part_of m
