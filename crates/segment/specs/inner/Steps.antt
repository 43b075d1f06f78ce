-- What private functions promise each other.
use Rattle.std.specs.Prelude.{ℕ, Bool, ◌||◌, List, ◌++◌, eqb, Float}
use Rattle.blend.specs.Channels.{channels_of}
use Rattle.blend.specs.declared.Rgba.{Rgba}

-- a row of 13 or 15 numbers is a segment, any other none
abbrev pub segment_length : ℕ → Bool
segment_length n = eqb n 13 || eqb n 15

-- the channels of a segment with these colours at its ends
abbrev pub ends_channels : Rgba → Rgba → List Float
ends_channels left right = channels_of left ++ channels_of right
