-- Numbers as text, computed. Assumes nothing.
use mathlib.Core.Path.{◌≡◌, refl}
use mathlib.Core.List.{[], ◌∷◌}
use lib.Ieee.{binary32, of_bits}
use Rattle.numerals.specs.Written.{digits, plain_decimal, places, nine, in_range, signed, text_of}

-- 1.001953125, a tie, is `1.00195312`
tie : text_of (of_bits binary32 0x3f80_4000) ≡ 49 ∷ 46 ∷ 48 ∷ 48 ∷ 49 ∷ 57 ∷ 53 ∷ 51 ∷ 49 ∷ 50 ∷ []
unfolding text_of in_range nine places plain_decimal digits signed of_bits
tie = refl

-- 1e-6 as an f32, the least that can be written, with its sign
least : text_of (of_bits binary32 0xb586_37bd) ≡ 45 ∷ 48 ∷ 46 ∷ 48 ∷ 48 ∷ 48 ∷ 48 ∷ 48 ∷ 48 ∷ 57 ∷ 57 ∷ 57 ∷ 57 ∷ 57 ∷ 57 ∷ 57 ∷ 57 ∷ 55 ∷ []
unfolding text_of in_range nine places plain_decimal digits signed of_bits
least = refl

-- 1e6, the greatest
most : text_of (of_bits binary32 0x4974_2400) ≡ 49 ∷ 48 ∷ 48 ∷ 48 ∷ 48 ∷ 48 ∷ 48 ∷ 46 ∷ 48 ∷ 48 ∷ []
unfolding text_of in_range nine places plain_decimal digits signed of_bits
most = refl
