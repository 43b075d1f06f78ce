-- A ramp of any kind: its check, its domain, its colour at t.
use Rattle.std.specs.Prelude.{◌-◌, Bool, true, false, cond, List, length, Float}
use Rattle.float.specs.F32.{f0, f1}
use Rattle.blend.specs.declared.Rgba.{Rgba}
use Rattle.stops.specs.Lent.{Ramp}
use Rattle.stops.specs.Stops.{pos_at, stops_check}
use Rattle.stops.specs.Place.{place_of, place_in}
use Rattle.stops.specs.Pair.{colour_in}
use Rattle.stops.specs.declared.Kind.{Kind}
use Rattle.stops.specs.declared.Kind.TheVariants.{Linear, Smoothstep, Sharp, Basis, CatmullRom, Gimp, GimpSaved}
use Rattle.stops.specs.declared.Checked.{Checked}
use Rattle.stops.specs.declared.Place.{Place}
use Rattle.gradient.specs.Gimp.{gimp_check, gimp_colour}

-- segments and not stops
abbrev pub is_gimp : Kind → Bool
is_gimp Linear = false
is_gimp Smoothstep = false
is_gimp Sharp = false
is_gimp Basis = false
is_gimp CatmullRom = false
is_gimp Gimp = true
is_gimp GimpSaved = true

-- refusals 1, then stop by stop 2 and 3
unfoldable pub check_of : Ramp → Checked
check_of ramp = cond (is_gimp ramp.kind) (gimp_check ramp.kind ramp.positions ramp.channels ramp.codes) (stops_check ramp)

-- the ends of the domain: 0 and 1 of segments, the first and the last position of stops
unfoldable pub min_in : Kind → List Float → Float
min_in kind ps = cond (is_gimp kind) f0 (pos_at ps 0)

unfoldable pub max_in : Kind → List Float → Float
max_in kind ps = cond (is_gimp kind) f1 (pos_at ps (length ps - 1))

abbrev pub min_of : Ramp → Float
min_of ramp = min_in ramp.kind ramp.positions

abbrev pub max_of : Ramp → Float
max_of ramp = max_in ramp.kind ramp.positions

-- the colour at t, for any choice of the pair of stops
abbrev pub colour_by : (List Float → Float → Place) → Ramp → Float → Rgba
colour_by place ramp t =
    cond (is_gimp ramp.kind)
    (gimp_colour ramp.positions ramp.channels ramp.codes t)
    (colour_in ramp.kind ramp.positions ramp.channels t (place ramp.positions t))

-- document 01's: the pair is k - 1, k, where k is the first whose position is at least t
unfoldable pub colour_of : Ramp → Float → Rgba
colour_of ramp t = colour_by place_of ramp t

-- the same for slices that were not checked: the pair is found by narrowing
unfoldable pub any_colour : Ramp → Float → Rgba
any_colour ramp t = colour_by place_in ramp t
