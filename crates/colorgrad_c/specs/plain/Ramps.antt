-- What is told of the answers of the calls on ramps.
use Rattle.std.specs.Prelude.{ℕ, List, [], ◌∷◌, Float}
use Rattle.float.specs.F32.{f0}
use Rattle.blend.specs.Channels.{channels_of}
use Rattle.stops.specs.declared.Checked.{Checked}
use Rattle.stops.specs.Answers.{on_fine}
use Rattle.sharp_ramp.specs.declared.Built.{Built}
use Rattle.sharp_ramp.specs.Sharp.{stops_of_built}
use Rattle.paint.specs.declared.ColourAnswer.{ColourAnswer}
use Rattle.paint.specs.declared.ColourAnswer.TheVariants.{Colour, Refused}

-- the ends of a domain, where the ramp passes its check
abbrev pub ends_told : Checked → Float → Float → List Float
ends_told checked lo hi = on_fine checked (lo ∷ hi ∷ []) (λ n. f0 ∷ f0 ∷ [])

abbrev pub colour_told : ColourAnswer → List Float
colour_told (Colour c) = channels_of c
colour_told (Refused n) = f0 ∷ f0 ∷ f0 ∷ f0 ∷ []

abbrev pub built_told : Built → List ℕ
built_told r = stops_of_built r ∷ []
