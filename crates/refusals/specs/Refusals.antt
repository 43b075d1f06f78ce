-- The numbers of refusals, each with when it is given. Document 01, 'When the desk says no'; the names are those of include/colorgrad.h.
use Rattle.std.specs.Prelude.{ℕ}

-- stops fewer than 2, more than 2,048, or odd in number for sharp; lent GIMP segments 0, above 256 or of a kind not carried; building sharp, room below 2n; a list to write of fewer than 2 stops or more than 257;
-- an edit that adds a stop beyond 2,048; or lent lengths disagree
abbrev pub misshapen : ℕ
misshapen = 1

-- a position or channel of the input is not finite
abbrev pub not_finite : ℕ
not_finite = 2

-- a stop's position is below the one before (not asked of GIMP segments), in a list to write too; an edit that moves or adds a stop below the one before it or above the one after
abbrev pub falling : ℕ
falling = 3

-- sampling, thinning, refreshing: min or max beyond plus or minus 1e38
abbrev pub far_domain : ℕ
far_domain = 4

-- record length is not 4,608, 36 and 3, or, to thin or refresh, a count is 0 or above 128; one stop at a time, a place outside the record's rows and counts
abbrev pub bad_record : ℕ
bad_record = 5

-- edit: of a colour, ramp sharp or GIMP, no such stop, or a new channel is not finite; of a stop moved, added or removed, ramp neither linear nor smoothstep, an end place or none, or a number that is not finite
abbrev pub bad_edit : ℕ
bad_edit = 6

-- one more stop is kept than the output has room for; painting, more points than the output has room for colours; writing a list, more bytes than the output has
abbrev pub no_room : ℕ
no_room = 7

-- an emitted position or colour is not finite
abbrev pub list_not_finite : ℕ
list_not_finite = 8

-- an emitted position is below the one before
abbrev pub list_falling : ℕ
list_falling = 9

-- GIMP text too long, or a byte above 127 after the leading marks; as GIMP saves it, too long, a byte above 127 in line 1 or 3 or in a segment that is counted, or a second line, which has the name, that is not UTF-8
abbrev pub not_a_text : ℕ
not_a_text = 10

-- line 1, 2 or 3 invalid (that line); a count above 2^64 - 1 too
abbrev pub bad_header : ℕ
bad_header = 11

-- invalid segment (its line)
abbrev pub bad_segment : ℕ
bad_segment = 12

-- fewer segment lines than counted (line 3)
abbrev pub few_lines : ℕ
few_lines = 13

-- no segment (line 4)
abbrev pub no_segment : ℕ
no_segment = 14

-- count above 256 or above the lent room (line 3)
abbrev pub too_many_segments : ℕ
too_many_segments = 15

-- segment valid but curved; as GIMP saves it, curved with its middle outside its ends; of both, sinusoidal with its middle outside its ends (its line)
abbrev pub not_carried : ℕ
not_carried = 16

-- building sharp: n outside 1 to 256, domain not finite, min above max, or built positions not finite, falling, or not ending at max
abbrev pub not_built : ℕ
not_built = 17

-- a segment whose positions are not left ≤ middle ≤ right, or whose left end does not equal the right end of the one before, or a first that doesn't start at 0, or a last that doesn't end at 1 (its line)
abbrev pub torn : ℕ
torn = 18

-- writing a list: a number that cannot be written, a half-way point too; or a first position other than 0, or a last other than 1
abbrev pub unwritable : ℕ
unwritable = 19

-- to thin or refresh: the record's words are not the bits of the threshold in force, of min and of max
abbrev pub other_threshold : ℕ
other_threshold = 20

-- a list within a hold: two stops that follow each other do not show what lies between them
abbrev pub not_shown : ℕ
not_shown = 21

-- asking which depths a list made one: the list is turned down by `judge` before it asks for colours
abbrev pub bad_list : ℕ
bad_list = 22

-- the same: no depths, or one that is not finite, outside min..max, or below the one before
abbrev pub bad_depths : ℕ
bad_depths = 23

-- the same: a step that is not finite or below 0
abbrev pub bad_step : ℕ
bad_step = 24
