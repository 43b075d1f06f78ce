-- A ramp with room: slices of which the first so many stops are the ramp, and what lies past them is nobody's. It is written as a `Ramp` whose lists are longer.
use Rattle.std.specs.Prelude.{Bool, cond, ◌&&◌, ℕ, ◌+◌, ◌*◌, leb, ltb, take, Float}
use Rattle.std.proofs.lemmas.List.Edits.{sets}
use Rattle.refusals.specs.Limits.{most_stops}
use Rattle.stops.specs.Lent.{Ramp, ramp_of, Change, change, Lent, LentMut}
use Rattle.stops.specs.declared.Kind.{Kind}
use Rattle.gradient.specs.Ramp.{is_gimp}
use Rattle.refresh.specs.declared.editing.Edit.{Edit}
use Rattle.refresh.specs.declared.editing.Edit.TheVariants.{Colour, Move, Add, Remove}

-- in an `ensures`, where the ramp's slices are written; the codes are not
abbrev pub lent_room : Kind → LentMut Float → LentMut Float → Lent ℕ → Change Ramp
lent_room kind ps cs ks = change (ramp_of kind ps.entry.now cs.entry.now ks.entry.now) (ramp_of kind ps.exit.now cs.exit.now ks.entry.now)

-- the positions and the channels of n stops, or of n segments
abbrev pub positions_for : Kind → ℕ → ℕ
positions_for kind n = cond (is_gimp kind) (3 * n) n

abbrev pub channels_for : Kind → ℕ → ℕ
channels_for kind n = cond (is_gimp kind) (8 * n) (4 * n)

-- n stops are no more than a ramp may have, and as many as are lent; else 1
unfoldable pub stops_fit : Kind → ℕ → ℕ → ℕ → Bool
stops_fit kind n positions channels = leb n most_stops && (leb (positions_for kind n) positions && leb (channels_for kind n) channels)

-- a stop more has room
unfoldable pub room_fits : ℕ → ℕ → ℕ → Bool
room_fits n positions channels = ltb n positions && leb (4 * n + 4) channels

-- an addition without room is an edit of no place, which is 6: the first stop cannot be removed
abbrev pub fitted : ℕ → ℕ → ℕ → Edit → Edit
fitted n positions channels (Colour k c) = Colour k c
fitted n positions channels (Move k p) = Move k p
fitted n positions channels (Add k p c) = cond (room_fits n positions channels) (Add k p c) (Remove 0)
fitted n positions channels (Remove k) = Remove k

-- the ramp: the first n stops of what is lent, or segments
abbrev pub first_of : Ramp → ℕ → Ramp
first_of room n = ramp_of room.kind (take (positions_for room.kind n) room.positions) (take (channels_for room.kind n) room.channels) room.codes

-- another ramp written from the start; what lies past it stays
abbrev pub rewritten : Ramp → Ramp → Ramp
rewritten room ramp = ramp_of room.kind (sets room.positions 0 ramp.positions) (sets room.channels 0 ramp.channels) room.codes
