-- The hue circle. docs/HSV.md, 'Round the circle': the source's `blend_hsv_ccw` and `blend_hsv_cw`.
use Rattle.std.specs.Prelude.{cond, Float}
use Rattle.std.specs.Float.{binary32}
use Rattle.std.specs.Float.Ieee.{lt, neg, of_bits}
use Rattle.float.specs.F32.{◌⊕◌, ◌⊖◌, ◌⊗◌, f0}

-- 360, a turn in degrees
abbrev pub turn : Float
turn = of_bits binary32 0x43b4_0000

-- The hue at t of the way up from one hue to another. Where the other does not lie above, the way goes on through the end of the circle, so that equal hues
-- go the full turn; past that end a hue is taken back by a turn.
unfoldable pub way : Float → Float → Float → Float → Float
way from to end t =
    let h = from ⊕ (turn ⊖ (from ⊖ to)) ⊗ t in
    cond (lt from to) (from ⊕ (to ⊖ from) ⊗ t) (cond (lt end h) (h ⊖ turn) h)

-- counter-clockwise: hues rise, and the circle ends at 360
unfoldable pub up_hue : Float → Float → Float → Float
up_hue from to t = way from to turn t

-- clockwise is the mirror: hues rise from -360 to 0
unfoldable pub down_hue : Float → Float → Float → Float
down_hue from to t = neg (way (neg from) (neg to) f0 t)

-- the source's own steps for clockwise, to which a theorem holds the mirror (proofs/Mirror)
unfoldable pub source_hue : Float → Float → Float → Float
source_hue from to t =
    let h = from ⊖ (turn ⊖ (to ⊖ from)) ⊗ t in
    cond (lt to from) (from ⊖ (from ⊖ to) ⊗ t) (cond (lt h f0) (h ⊕ turn) h)
