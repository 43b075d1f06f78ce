-- A factor bent by the table, with a straight line between its entries. Document 02 (i).
use Rattle.std.specs.Prelude.{ℕ, suc, ◌-◌, min, cond, eqb, ℤ, pos, negsuc, Float}
use Rattle.std.specs.Float.{binary32}
use Rattle.std.specs.Float.Ieee.{of_bits}
use Rattle.float.specs.F32.{◌⊕◌, ◌⊖◌, ◌⊗◌, f1}
use Rattle.float.specs.Number.{clamp_of, whole_of, count_of}
use Rattle.sine.specs.Table.{entry}

-- 1,024 and 2^-24
abbrev pub steps : Float
steps = of_bits binary32 0x4480_0000

abbrev pub unit : Float
unit = of_bits binary32 0x3380_0000

-- A whole part as an index of the table. A factor that is clamped has one from 0 to 1,024.
unfoldable pub indexed : ℤ → ℕ
indexed (pos n) = min n 1024
indexed (negsuc n) = 0

abbrev pub index_of : Float → ℕ
index_of x = indexed (whole_of x)

-- T[i] + (T[i+1] - T[i])·fraction in f32, times 2^-24
unfoldable pub line_of : ℕ → Float → Float
line_of i fraction = (count_of (entry i) ⊕ count_of (entry (suc i) - entry i) ⊗ fraction) ⊗ unit

-- of factor times 1,024: i is the whole part; at 1,024 it is 1
unfoldable pub wave_at : Float → Float
wave_at x = cond (eqb (index_of x) 1024) f1 (line_of (index_of x) (x ⊖ count_of (index_of x)))

-- the factor is clamped to 0..1 first; not-a-number stays so
unfoldable pub wave_of : Float → Float
wave_of f = wave_at (clamp_of f ⊗ steps)
