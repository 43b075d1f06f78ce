-- A colour as hue, saturation, value. docs/HSV.md, 'There': the usual rule, which is our choice.
use Rattle.std.specs.Prelude.{cond, Float}
use Rattle.std.specs.Float.{binary32}
use Rattle.std.specs.Float.Ieee.{lt, eq, of_bits}
use Rattle.float.specs.F32.{◌⊕◌, ◌⊖◌, ◌⊗◌, ◌⊘◌, f0, f2, f4, f6}
use Rattle.blend.specs.declared.Rgba.{Rgba}
use Rattle.hsv.specs.declared.Hsva.{Hsva}

-- 60, a sixth of a turn in degrees
abbrev pub sixth : Float
sixth = of_bits binary32 0x4270_0000

-- the second only where it is larger, or smaller: beside not-a-number the first stays
unfoldable pub larger : Float → Float → Float
larger x y = cond (lt x y) y x

unfoldable pub smaller : Float → Float → Float
smaller x y = cond (lt y x) y x

-- the value is the greatest channel, and d the difference to the least
abbrev pub value_of : Rgba → Float
value_of c = larger (larger c.r c.g) c.b

abbrev pub least_of : Rgba → Float
least_of c = smaller (smaller c.r c.g) c.b

-- the hue in sixths of a turn, counted from red, green or blue, whichever is the first to be the greatest
unfoldable pub sixths_of : Float → Float → Float → Float → Float → Float
sixths_of r g b value d =
    let q = (g ⊖ b) ⊘ d in
    cond (eq r value)
    (cond (lt q f0) (q ⊕ f6) q)
    (cond (eq g value) (f2 ⊕ (b ⊖ r) ⊘ d) (f4 ⊕ (r ⊖ g) ⊘ d))

-- a grey has hue 0 and saturation 0; alpha is kept
unfoldable pub hsva_by : Rgba → Float → Float → Hsva
hsva_by c value d =
    cond (eq d f0)
    (record { h = f0; s = f0; v = value; a = c.a })
    (record { h = sixths_of c.r c.g c.b value d ⊗ sixth; s = d ⊘ value; v = value; a = c.a })

unfoldable pub hsva_of : Rgba → Hsva
hsva_of c = hsva_by c (value_of c) (value_of c ⊖ least_of c)
