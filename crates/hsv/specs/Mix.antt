-- Two colours mixed along the hue circle. docs/HSV.md, 'Mixed': the source's `blend_hsv_ccw` and `blend_hsv_cw`.
use Rattle.std.specs.Prelude.{Float}
use Rattle.blend.specs.Blend.{linear1}
use Rattle.blend.specs.declared.Rgba.{Rgba}
use Rattle.hsv.specs.There.{hsva_of}
use Rattle.hsv.specs.Circle.{up_hue, down_hue}
use Rattle.hsv.specs.Back.{rgba_of}
use Rattle.hsv.specs.declared.Hsva.{Hsva}

-- a colour converted there and back: what a step segment shows of its end
unfoldable pub there_and_back : Rgba → Rgba
there_and_back c = rgba_of (hsva_of c)

-- the hue is given; saturation, value and alpha are mixed in a straight line
unfoldable pub mixed_at : Float → Hsva → Hsva → Float → Rgba
mixed_at hue p q t = rgba_of (record { h = hue; s = linear1 p.s q.s t; v = linear1 p.v q.v t; a = linear1 p.a q.a t })

-- along any way from one hue to another
abbrev pub mixed_by : (Float → Float → Float → Float) → Hsva → Hsva → Float → Rgba
mixed_by hue p q t = mixed_at (hue p.h q.h t) p q t

unfoldable pub counter_clockwise : Rgba → Rgba → Float → Rgba
counter_clockwise from to t = mixed_by up_hue (hsva_of from) (hsva_of to) t

unfoldable pub clockwise : Rgba → Rgba → Float → Rgba
clockwise from to t = mixed_by down_hue (hsva_of from) (hsva_of to) t
