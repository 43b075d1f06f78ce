-- A sampler's constants and its threshold, and the shape of a sample record.
use Rattle.std.specs.Prelude.{cond, ℕ, Float}
use Rattle.std.specs.Float.{binary32}
use Rattle.std.specs.Float.Ieee.{of_bits, lt}
use Rattle.std.specs.Float.Ieee.Scale.{finite}

-- 36 cells, halved to depth 7: a row holds the left end and at most 2^7 - 1 midpoints
abbrev pub cells : ℕ
cells = 36

abbrev pub depth : ℕ
depth = 7

abbrev pub row_length : ℕ
row_length = 128

abbrev pub record_length : ℕ
record_length = 4608

-- the words that say what a record was sampled with
abbrev pub marks_length : ℕ
marks_length = 3

-- 0.007, 0.001 and 0.035
abbrev pub default_threshold : Float
default_threshold = of_bits binary32 0x3be5_6042

abbrev pub least_threshold : Float
least_threshold = of_bits binary32 0x3a83_126f

abbrev pub most_threshold : Float
most_threshold = of_bits binary32 0x3d0f_5c29

-- 1e38
abbrev pub farthest : Float
farthest = of_bits binary32 0x7e96_7699

-- a threshold that is not finite becomes the default, another one is clamped
unfoldable pub threshold_of : Float → Float
threshold_of x =
    cond (finite x)
    (cond (lt x least_threshold) least_threshold (cond (lt most_threshold x) most_threshold x))
    default_threshold
