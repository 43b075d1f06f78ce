-- A ramp of stops passes `check_of` just where it is valid. Assumes nothing.
use mathlib.Core.Path.{◌≡◌}
use mathlib.Core.Bool.{false}
use Rattle.stops.specs.Lent.{Ramp}
use Rattle.stops.specs.declared.Checked.TheVariants.{Fine}
use Rattle.stops.proofs.Valid.{Valid, valid_stops, passes_stops}
use Rattle.gradient.specs.Ramp.{is_gimp, check_of}

pub valid : (ramp : Ramp) → is_gimp ramp.kind ≡ false → check_of ramp ≡ Fine → Valid ramp
unfolding check_of
valid ramp g h = valid_stops ramp (simp g at h)

pub passes : (ramp : Ramp) → is_gimp ramp.kind ≡ false → Valid ramp → check_of ramp ≡ Fine
unfolding check_of
passes ramp g ok = simp g (passes_stops ramp ok)
