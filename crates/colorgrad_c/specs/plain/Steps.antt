-- One stop at a time: a place of three numbers, and what is told of a step.
use Rattle.std.specs.Prelude.{cond, List, [], ◌∷◌, ℕ, min, eqb, Float}
use Rattle.float.specs.F32.{f0}
use Rattle.blend.specs.Channels.{channels_of}
use Rattle.next_stop.specs.declared.ListPlace.{ListPlace}
use Rattle.next_stop.specs.declared.ListPlace.TheVariants as place
use Rattle.next_stop.specs.declared.Told.{Told}
use Rattle.next_stop.specs.declared.Told.TheVariants as told
use Rattle.next_stop.specs.declared.Handed.{Handed}

-- the largest number of 32 bits
abbrev pub most_plain : ℕ
most_plain = 4294967295

-- state 0 is the start, 1 after a stop, any other the end
unfoldable pub place_from : ℕ → ℕ → ℕ → ListPlace
place_from state row index = cond (eqb state 0) place.Start (cond (eqb state 1) (place.After row index) place.Ended)

-- the state, the row and the index
abbrev pub place_told : ListPlace → List ℕ
place_told place.Start = 0 ∷ 0 ∷ 0 ∷ []
place_told (place.After row index) = 1 ∷ min row most_plain ∷ min index most_plain ∷ []
place_told place.Ended = 2 ∷ 0 ∷ 0 ∷ []

abbrev pub has_stop : Told → ℕ
has_stop (told.Stop s) = 1
has_stop told.Ended = 0
has_stop (told.Refused n) = 0

-- the stop, a position and four channels; 0 where there is none
abbrev pub stop_told : Told → List Float
stop_told (told.Stop s) = s.position ∷ channels_of s.colour
stop_told told.Ended = f0 ∷ f0 ∷ f0 ∷ f0 ∷ f0 ∷ []
stop_told (told.Refused n) = f0 ∷ f0 ∷ f0 ∷ f0 ∷ f0 ∷ []

-- whether there is a stop, the evaluations, and the place to go on from
abbrev pub handed_told : Handed → List ℕ
handed_told h = has_stop h.told ∷ h.evaluations ∷ place_told h.place
