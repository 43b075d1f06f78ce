-- The limits that refusals 1, 10, 15 and 17 name.
use Rattle.std.specs.Prelude.{ℕ}

-- stops of a ramp
unfoldable pub most_stops : ℕ
most_stops = 2048

-- segments of a GIMP ramp
abbrev pub most_segments : ℕ
most_segments = 256

-- stops of a list that is written as a GIMP file: one more than its segments
abbrev pub most_written : ℕ
most_written = 257

-- colours of a sharp ramp to build
abbrev pub most_colours : ℕ
most_colours = 256

-- bytes of a GIMP text, marks counted
abbrev pub most_text : ℕ
most_text = 65536
