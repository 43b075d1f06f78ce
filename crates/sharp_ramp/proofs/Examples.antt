-- The document's proof print for building sharp, and two more: one table, and one claim about it, computed from the definition. Assumes nothing.
use mathlib.Core.Path.{◌≡◌, refl}
use mathlib.Core.List.{List, [], ◌∷◌, map}
use Prim.Native.Nat.{ℕ}
use lib.Ieee.{binary32, of_bits, to_bits, of_int, add, sub, mul, div, lt}
use Rattle.float.specs.Number.{clamp_of}
use Rattle.blend.specs.Points.{linspace_at}
use Rattle.sharp_ramp.specs.Sharp.{softness_of, inset_of, band_at, listed, sharp_positions}

-- how many colours; the domain and the softness, by bits; the positions, by bits
pub record Print : Type 0 where
  pub colours : ℕ
  pub min : ℕ
  pub max : ℕ
  pub softness : ℕ
  pub positions : List ℕ

-- 2 colours on 0..1, softness 0.5: 0, 0.4375, 0.5625, 1; softness not-a-number: 0, 0.4875, 0.5125, 1.
-- 1 colour on -2..-0.8: the last position is not max, which is bf4ccccd, so that building is refused
abbrev pub table : List Print
table =
    record { colours = 2; min = 0; max = 0x3f80_0000; softness = 0x3f00_0000; positions = 0 ∷ 0x3ee0_0000 ∷ 0x3f10_0000 ∷ 0x3f80_0000 ∷ [] }
    ∷ record { colours = 2; min = 0; max = 0x3f80_0000; softness = 0x7fc0_0000; positions = 0 ∷ 0x3ef9_999a ∷ 0x3f03_3333 ∷ 0x3f80_0000 ∷ [] }
    ∷ record { colours = 1; min = 0xc000_0000; max = 0xbf4c_cccd; softness = 0x3f00_0000; positions = 0xc000_0000 ∷ 0xbf4c_cccc ∷ [] }
    ∷ []

abbrev built : Print → List ℕ
built p = map (to_bits binary32) (sharp_positions (of_bits binary32 p.min) (of_bits binary32 p.max) (of_bits binary32 p.softness) p.colours)

pub prints : map built table ≡ map (λ (p : Print). p.positions) table
unfolding sharp_positions listed band_at inset_of softness_of linspace_at clamp_of of_bits to_bits of_int add sub mul div lt
prints = refl
