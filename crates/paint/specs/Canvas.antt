-- What painting leaves in the lent output.
use Rattle.std.specs.Prelude.{cond, List, ◌++◌, ℕ, ◌*◌, ◌/◌, ltb, length, drop, replicate, Float}
use Rattle.float.specs.F32.{f0}
use Rattle.blend.specs.Channels.{colours_of}
use Rattle.blend.specs.declared.Rgba.{Rgba}
use Rattle.stops.specs.Lent.{Ramp}
use Rattle.gradient.specs.Ramp.{check_of, colour_of}
use Rattle.stops.specs.Answers.{on_fine}

-- the whole colours that the output holds
abbrev pub colour_room : List Float → ℕ
colour_room out = length out / 4

-- the colours at ts, and what lies past the last of them
abbrev pub painted_over : (Float → Rgba) → List Float → List Float → List Float
painted_over g ts out = colours_of g ts ++ drop (4 * length ts) out

-- 1 to 3 change nothing, 7 sets the whole output to zero, and what lies past the last colour stays
unfoldable pub canvas : Ramp → List Float → List Float → List Float
canvas ramp ts out =
    on_fine (check_of ramp)
    (cond (ltb (colour_room out) (length ts)) (replicate (length out) f0) (painted_over (colour_of ramp) ts out))
    (λ n. out)
