-- The ramp with an edit made. One definition for the four: a stop is given a colour or a position, or one is added, whose stop is the index that it gets, or one is removed.
use Rattle.std.specs.Prelude.{List, [], ◌∷◌, ◌++◌, ℕ, ◌+◌, ◌-◌, ◌*◌, take, drop, Float}
use Rattle.std.proofs.lemmas.List.Edits.{sets}
use Rattle.blend.specs.declared.Rgba.{Rgba}
use Rattle.blend.specs.Channels.{channels_of}
use Rattle.stops.specs.Lent.{Ramp, ramp_of}
use Rattle.refresh.specs.declared.editing.Edit.{Edit}
use Rattle.refresh.specs.declared.editing.Edit.TheVariants.{Colour, Move, Add, Remove}

-- the channels with the colour of stop k changed
unfoldable pub changed : List Float → ℕ → Rgba → List Float
changed cs k colour = sets cs (4 * k) (channels_of colour)

-- a list with `gone` items at a place left out, and others put in there
unfoldable pub spliced : List Float → ℕ → ℕ → List Float → List Float
spliced l at gone items = take at l ++ (items ++ drop (at + gone) l)

abbrev pub positions_after : List Float → Edit → List Float
positions_after ps (Colour k c) = ps
positions_after ps (Move k p) = spliced ps k 1 (p ∷ [])
positions_after ps (Add k p c) = spliced ps k 0 (p ∷ [])
positions_after ps (Remove k) = spliced ps k 1 []

abbrev pub channels_after : List Float → Edit → List Float
channels_after cs (Colour k c) = changed cs k c
channels_after cs (Move k p) = cs
channels_after cs (Add k p c) = spliced cs (4 * k) 0 (channels_of c)
channels_after cs (Remove k) = spliced cs (4 * k) 4 []

abbrev pub edited : Ramp → Edit → Ramp
edited ramp e = ramp_of ramp.kind (positions_after ramp.positions e) (channels_after ramp.channels e) ramp.codes

-- ---- in numbers: the stop that an edit names, how many stops stand there before, and how many the ramp has after
abbrev pub stop_of : Edit → ℕ
stop_of (Colour k c) = k
stop_of (Move k p) = k
stop_of (Add k p c) = k
stop_of (Remove k) = k

abbrev pub gone_of : Edit → ℕ
gone_of (Colour k c) = 1
gone_of (Move k p) = 1
gone_of (Add k p c) = 0
gone_of (Remove k) = 1

abbrev pub stops_after : ℕ → Edit → ℕ
stops_after n (Colour k c) = n
stops_after n (Move k p) = n
stops_after n (Add k p c) = n + 1
stops_after n (Remove k) = n - 1
