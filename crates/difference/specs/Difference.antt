-- Whether two colours differ by more than a threshold: half the root of the sum of the squared differences, of the clamped colours.
use Rattle.std.specs.Prelude.{Bool, Float}
use Rattle.std.specs.Float.Ieee.{lt}
use Rattle.float.specs.F32.{◌⊕◌, ◌⊖◌, ◌⊗◌, ◌⊘◌, f2}
use Rattle.float.specs.Number.{clamp_of}
use Rattle.sqrt.specs.Root.{root_of}
use Rattle.blend.specs.declared.Rgba.{Rgba}

unfoldable pub clamped_of : Rgba → Rgba
clamped_of x = record { r = clamp_of x.r; g = clamp_of x.g; b = clamp_of x.b; a = clamp_of x.a }

abbrev pub square : Float → Float
square x = x ⊗ x

-- added from the left
unfoldable pub squares_of : Rgba → Rgba → Float
squares_of x y = square (x.r ⊖ y.r) ⊕ square (x.g ⊖ y.g) ⊕ square (x.b ⊖ y.b) ⊕ square (x.a ⊖ y.a)

-- half the root, of the clamped colours
abbrev pub distance_of : Rgba → Rgba → Float
distance_of x y = root_of (squares_of (clamped_of x) (clamped_of y)) ⊘ f2

unfoldable pub differs : Float → Rgba → Rgba → Bool
differs threshold x y = lt threshold (distance_of x y)

-- the same by one comparison, with the cutoff of a threshold
unfoldable pub exceeds : Float → Rgba → Rgba → Bool
exceeds cutoff x y = lt cutoff (squares_of (clamped_of x) (clamped_of y))
