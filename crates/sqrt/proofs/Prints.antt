-- Document 01's proof prints of the root, by computation: one table of patterns and one claim about it. Assumes nothing.
use mathlib.Core.Path.{◌≡◌, refl}
use mathlib.Core.List.{List, [], ◌∷◌, map}
use Prim.Native.Nat.{ℕ}
use lib.Ieee.{binary32, of_bits, to_bits}
use Rattle.sqrt.specs.Root.{root_of}

-- a pattern, and that of its root: 2; 2 ^ -149; 1, 4, 3, 0.25; the largest subnormal; the largest f32; +0, -0, infinity; -1, -2 ^ -149, -infinity, whose root is not-a-number, as `to_bits` writes it
abbrev pub table : List (ℕ × ℕ)
table =
    (0x4000_0000, 0x3fb5_04f3) ∷ (0x0000_0001, 0x1a35_04f3)
    ∷ (0x3f80_0000, 0x3f80_0000) ∷ (0x4080_0000, 0x4000_0000) ∷ (0x4040_0000, 0x3fdd_b3d7) ∷ (0x3e80_0000, 0x3f00_0000)
    ∷ (0x007f_ffff, 0x1fff_ffff) ∷ (0x7f7f_ffff, 0x5f7f_ffff)
    ∷ (0x0000_0000, 0x0000_0000) ∷ (0x8000_0000, 0x8000_0000) ∷ (0x7f80_0000, 0x7f80_0000)
    ∷ (0xbf80_0000, 0x7fc0_0000) ∷ (0x8000_0001, 0x7fc0_0000) ∷ (0xff80_0000, 0x7fc0_0000)
    ∷ []

pub root_bits : ℕ → ℕ
unfolding root_of of_bits to_bits
root_bits b = to_bits binary32 (root_of (of_bits binary32 b))

pub root_prints : map (λ (row : ℕ × ℕ). root_bits row.0) table ≡ map (λ (row : ℕ × ℕ). row.1) table
unfolding root_bits
root_prints = refl
