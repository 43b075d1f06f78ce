-- How two colours are mixed, in the source's order. Item 1 of document 01's 'Ramps carried'.
use Rattle.std.specs.Prelude.{Float}
use Rattle.float.specs.F32.{◌⊕◌, ◌⊖◌, ◌⊗◌, f0, f1, f2, f3}
use Rattle.blend.specs.declared.Rgba.{Rgba}

abbrev pub linear1 : Float → Float → Float → Float
linear1 a b t = a ⊕ t ⊗ (b ⊖ a)

-- multiplied from the left
abbrev pub smooth1 : Float → Float → Float → Float
smooth1 a b t = (b ⊖ a) ⊗ (f3 ⊖ t ⊗ f2) ⊗ t ⊗ t ⊕ a

-- the same on each channel
unfoldable pub linear : Rgba → Rgba → Float → Rgba
linear p q t = record { r = linear1 p.r q.r t; g = linear1 p.g q.g t; b = linear1 p.b q.b t; a = linear1 p.a q.a t }

unfoldable pub smooth : Rgba → Rgba → Float → Rgba
smooth p q t = record { r = smooth1 p.r q.r t; g = smooth1 p.g q.g t; b = smooth1 p.b q.b t; a = smooth1 p.a q.a t }

-- (0, 0, 0, 1), the colour where t has no place
abbrev pub black : Rgba
black = record { r = f0; g = f0; b = f0; a = f1 }
