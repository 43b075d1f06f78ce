-- A colour as four numbers, red, green, blue and alpha; the colours at some points one after the other; stops as they are lent.
use Rattle.std.specs.Prelude.{List, [], ◌∷◌, ◌++◌, Float}
use Rattle.blend.specs.declared.Rgba.{Rgba}
use Rattle.blend.specs.declared.Stop.{Stop}

abbrev pub channels_of : Rgba → List Float
channels_of c = c.r ∷ c.g ∷ c.b ∷ c.a ∷ []

unfoldable pub colours_of : (Float → Rgba) → List Float → List Float
colours_of g [] = []
colours_of g (t ∷ ts) = channels_of (g t) ++ colours_of g ts

-- the positions of stops, and their channels
unfoldable pub positions_in : List Stop → List Float
positions_in [] = []
positions_in (s ∷ ss) = s.position ∷ positions_in ss

unfoldable pub channels_in : List Stop → List Float
channels_in [] = []
channels_in (s ∷ ss) = channels_of s.colour ++ channels_in ss
