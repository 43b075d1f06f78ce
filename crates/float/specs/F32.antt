-- Rust's operators on f32, each rounded once, and the literals of the source. A literal is given by its bits.
use Rattle.std.specs.Prelude.{Float}
use Rattle.std.specs.Float.{binary32}
use Rattle.std.specs.Float.Ieee.{add, sub, mul, div, of_bits}

infixl 60 ◌⊕◌ ◌⊖◌
infixl 70 ◌⊗◌ ◌⊘◌
abbrev pub ◌⊕◌ : Float → Float → Float
x ⊕ y = add binary32 x y

abbrev pub ◌⊖◌ : Float → Float → Float
x ⊖ y = sub binary32 x y

abbrev pub ◌⊗◌ : Float → Float → Float
x ⊗ y = mul binary32 x y

abbrev pub ◌⊘◌ : Float → Float → Float
x ⊘ y = div binary32 x y

-- 0, 1, 2, 3, 4, 6
abbrev pub f0 : Float
f0 = of_bits binary32 0

abbrev pub f1 : Float
f1 = of_bits binary32 0x3f80_0000

abbrev pub f2 : Float
f2 = of_bits binary32 0x4000_0000

abbrev pub f3 : Float
f3 = of_bits binary32 0x4040_0000

abbrev pub f4 : Float
f4 = of_bits binary32 0x4080_0000

abbrev pub f6 : Float
f6 = of_bits binary32 0x40c0_0000

-- 0.5, 0.1
abbrev pub half : Float
half = of_bits binary32 0x3f00_0000

abbrev pub tenth : Float
tenth = of_bits binary32 0x3dcc_cccd

-- 2^-23
abbrev pub epsilon : Float
epsilon = of_bits binary32 0x3400_0000
