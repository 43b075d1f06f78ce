-- What the tool prints. Document 01, 'Tools read standard input ..': numbers come out as 8 hex digits of bits; every line ends with LF.
use Rattle.std.specs.Prelude.{ℕ, zero, suc, ◌+◌, ◌/◌, ◌%◌, cond, List, [], ◌∷◌, ◌++◌, drop, ltb, Float}
use Rattle.std.specs.Float.{binary32}
use Rattle.std.specs.Float.Ieee.{to_bits}
use Rattle.text.specs.Output.{count_text}
use Rattle.blend.specs.declared.Rgba.{Rgba}
use Rattle.blend.specs.declared.Stop.{Stop}
use Rattle.stops.specs.Stops.{stop_at}
use Rattle.writing.specs.declared.Reply.{Reply}
use Rattle.writing.specs.declared.Reply.TheVariants as reply

-- ---- numbers

-- '0' to '9', 'a' to 'f'
unfoldable pub hex_digit : ℕ → ℕ
hex_digit d = cond (ltb d 10) (48 + d) (87 + d)

-- the last `left` hex digits of n
unfoldable pub hex_of : ℕ → ℕ → List ℕ
hex_of zero n = []
hex_of (suc left) n = hex_of left (n / 16) ++ hex_digit (n % 16) ∷ []

-- ---- a stop's line: a tab and 8 hex digits of bits for each number

unfoldable pub field_text : Float → List ℕ
field_text x = 9 ∷ hex_of 8 (to_bits binary32 x)

unfoldable pub colour_text : Rgba → List ℕ
colour_text c = field_text c.r ++ (field_text c.g ++ (field_text c.b ++ field_text c.a))

-- `stop`
abbrev pub stop_word : List ℕ
stop_word = 115 ∷ 116 ∷ 111 ∷ 112 ∷ []

unfoldable pub stop_text : Stop → List ℕ
stop_text s = stop_word ++ (field_text s.position ++ (colour_text s.colour ++ 10 ∷ []))

-- n stops lent as positions and channels
unfoldable pub rows_text : ℕ → List Float → List Float → List ℕ
rows_text zero ps cs = []
rows_text (suc n) ps cs = stop_text (stop_at ps cs 0) ++ rows_text n (drop 1 ps) (drop 4 cs)

-- ---- the answers

-- a word and a number
unfoldable pub line_text : List ℕ → ℕ → List ℕ
line_text word n = word ++ (count_text n ++ 10 ∷ [])

-- `unread` and `refused`, with their tabs
unfoldable pub unread_text : ℕ → List ℕ
unread_text line = line_text (117 ∷ 110 ∷ 114 ∷ 101 ∷ 97 ∷ 100 ∷ 9 ∷ []) line

unfoldable pub refused_text : ℕ → List ℕ
refused_text number = line_text (114 ∷ 101 ∷ 102 ∷ 117 ∷ 115 ∷ 101 ∷ 100 ∷ 9 ∷ []) number

-- `stops`, and `evaluations`, with the tabs around them
abbrev pub stops_word : List ℕ
stops_word = 115 ∷ 116 ∷ 111 ∷ 112 ∷ 115 ∷ 9 ∷ []

abbrev pub evaluations_word : List ℕ
evaluations_word = 9 ∷ 101 ∷ 118 ∷ 97 ∷ 108 ∷ 117 ∷ 97 ∷ 116 ∷ 105 ∷ 111 ∷ 110 ∷ 115 ∷ 9 ∷ []

unfoldable pub list_text : ℕ → ℕ → List Float → List Float → List ℕ
list_text n evaluations ps cs = stops_word ++ (count_text n ++ (evaluations_word ++ (count_text evaluations ++ 10 ∷ rows_text n ps cs)))

-- what the tool has to say, with the stops of a list
abbrev pub reply_text : Reply → List Float → List Float → List ℕ
reply_text (reply.Unread line) ps cs = unread_text line
reply_text (reply.Refused number) ps cs = refused_text number
reply_text (reply.Made n evaluations) ps cs = list_text n evaluations ps cs
