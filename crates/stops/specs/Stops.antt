-- Stops lent as n positions and 4 n channels (r g b a of each), and what they must be. Refusals 1 to 3 of document 01's table.
use Rattle.std.specs.Prelude.{ℕ, zero, suc, ◌+◌, ◌*◌, ◌%◌, Bool, true, false, not, cond, ◌&&◌, ◌||◌, List, [], ◌∷◌, leb, eqb, length, get_or, Float}
use Rattle.std.specs.Float.{nan, inf}
use Rattle.std.specs.Float.Ieee.{lt, eq}
use Rattle.std.specs.Float.Ieee.Scale.{finite}
use Rattle.refusals.specs.Refusals.{misshapen, not_finite, falling}
use Rattle.refusals.specs.Limits.{most_stops}
use Rattle.blend.specs.declared.Rgba.{Rgba}
use Rattle.blend.specs.declared.Stop.{Stop}
use Rattle.stops.specs.Lent.{Ramp}
use Rattle.stops.specs.declared.Kind.{Kind}
use Rattle.stops.specs.declared.Kind.TheVariants.{Linear, Smoothstep, Sharp, Basis, CatmullRom, Gimp, GimpSaved}
use Rattle.stops.specs.declared.Checked.{Checked}
use Rattle.stops.specs.declared.Checked.TheVariants.{Fine, Refused}

-- stop i: its position and its colour. What lies past the end of a list is not-a-number
abbrev pub pos_at : List Float → ℕ → Float
pos_at ps i = get_or ps i nan

abbrev pub colour_at : List Float → ℕ → Rgba
colour_at cs i = record { r = get_or cs (4 * i) nan; g = get_or cs (4 * i + 1) nan; b = get_or cs (4 * i + 2) nan; a = get_or cs (4 * i + 3) nan }

abbrev pub stop_at : List Float → List Float → ℕ → Stop
stop_at ps cs i = record { position = pos_at ps i; colour = colour_at cs i }

abbrev pub finite_rgba : Rgba → Bool
finite_rgba c = finite c.r && finite c.g && finite c.b && finite c.a

abbrev pub is_sharp : Kind → Bool
is_sharp Linear = false
is_sharp Smoothstep = false
is_sharp Sharp = true
is_sharp Basis = false
is_sharp CatmullRom = false
is_sharp Gimp = false
is_sharp GimpSaved = false

-- n positions, m channels and c codes: 2 stops to the most, four channels each, no code, and for sharp an even number of stops
unfoldable pub shaped : Kind → ℕ → ℕ → ℕ → Bool
shaped kind n m c = leb 2 n && leb n most_stops && eqb m (4 * n) && eqb c 0 && (not (is_sharp kind) || eqb (n % 2) 0)

-- the next `left` stops, from stop i on; `prev` is the position of the one before
unfoldable pub each_stop : ℕ → ℕ → Float → List Float → List Float → Checked
each_stop zero i prev ps cs = Fine
each_stop (suc left) i prev ps cs =
    cond (finite (pos_at ps i) && finite_rgba (colour_at cs i))
    (cond (lt (pos_at ps i) prev) (Refused falling) (each_stop left (suc i) (pos_at ps i) ps cs))
    (Refused not_finite)

-- 1, then stop by stop 2 and 3. Nothing is below the first stop's `prev`
unfoldable pub stops_check : Ramp → Checked
stops_check ramp =
    cond (shaped ramp.kind (length ramp.positions) (length ramp.channels) (length ramp.codes))
    (each_stop (length ramp.positions) 0 (inf true) ramp.positions ramp.channels)
    (Refused misshapen)

-- for refusal 17: finite positions that do not fall and end at max; `prev` is the one before
unfoldable pub steady : Float → Float → List Float → Bool
steady max prev [] = eq prev max
steady max prev (p ∷ ps) = finite p && not (lt p prev) && steady max p ps
