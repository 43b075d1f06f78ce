-- Hue, saturation, value as a colour, by way of the lightness. docs/HSV.md, 'Back': as the Go library has it, in f32.
use Rattle.std.specs.Prelude.{cond, Float}
use Rattle.std.specs.Float.{binary32}
use Rattle.std.specs.Float.Ieee.{lt, eq, rem}
use Rattle.float.specs.F32.{◌⊕◌, ◌⊖◌, ◌⊗◌, ◌⊘◌, f0, f1, f2, f3, f4, f6, half}
use Rattle.float.specs.Number.{clamp_of}
use Rattle.blend.specs.declared.Rgba.{Rgba}
use Rattle.hsv.specs.There.{sixth}
use Rattle.hsv.specs.Circle.{turn}
use Rattle.hsv.specs.declared.Hsva.{Hsva}

-- an angle taken into 0..360
unfoldable pub angle_of : Float → Float
angle_of h = let rest = rem binary32 h turn in cond (lt rest f0) (rest ⊕ turn) rest

-- sixths of a turn taken into 0..6
unfoldable pub into_six : Float → Float
into_six x = rem binary32 (rem binary32 x f6 ⊕ f6) f6

unfoldable pub lightness_of : Float → Float → Float
lightness_of s v = (f2 ⊖ s) ⊗ v ⊘ f2

-- the saturation beside the lightness l, from that beside the value v
unfoldable pub saturation_of : Float → Float → Float → Float
saturation_of s v l =
    cond (eq l f0) s (cond (eq l f1) f0 (cond (lt l half) (s ⊗ v ⊘ (l ⊗ f2)) (s ⊗ v ⊘ (f2 ⊖ l ⊗ f2))))

-- the greatest channel; the least is twice the lightness less that
unfoldable pub upper_of : Float → Float → Float
upper_of s l = cond (lt l half) (l ⊗ (f1 ⊕ s)) (l ⊕ s ⊖ l ⊗ s)

-- a channel at x sixths of a turn: rising, the greatest, falling, the least
unfoldable pub channel_at : Float → Float → Float → Float
channel_at least most x =
    cond (lt x f1) (least ⊕ (most ⊖ least) ⊗ x)
    (cond (lt x f3) most (cond (lt x f4) (least ⊕ (most ⊖ least) ⊗ (f4 ⊖ x)) least))

unfoldable pub channel_of : Float → Float → Float → Float
channel_of least most x = clamp_of (channel_at least most (into_six x))

-- red is asked for a third of the circle ahead of the hue, blue a third behind
unfoldable pub channels_around : Float → Float → Float → Float → Rgba
channels_around least most x a = record { r = channel_of least most (x ⊕ f2); g = channel_of least most x; b = channel_of least most (x ⊖ f2); a = a }

-- hue, saturation and lightness as a colour
unfoldable pub from_lightness : Float → Float → Float → Float → Rgba
from_lightness h s l a =
    cond (eq s f0) (record { r = l; g = l; b = l; a = a })
    (channels_around (f2 ⊗ l ⊖ upper_of s l) (upper_of s l) (h ⊘ sixth) a)

-- by saturation and value, clamped
unfoldable pub lightened : Float → Float → Float → Float → Rgba
lightened h s v a = from_lightness h (saturation_of s v (lightness_of s v)) (lightness_of s v) a

unfoldable pub rgba_of : Hsva → Rgba
rgba_of c = lightened (angle_of c.h) (clamp_of c.s) (clamp_of c.v) (clamp_of c.a)
