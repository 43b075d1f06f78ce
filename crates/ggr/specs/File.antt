-- A GIMP file as a whole: what reading it answers and writes, and its name. Document 01, 'What a GIMP file may hold' and 'When the desk says no'; document 02 (iii).
-- It is read by document 01's rules, or by those for what GIMP itself saves: longer texts, names in any script, long numbers.
use Rattle.std.specs.Prelude.{ℕ, zero, suc, ◌-◌, ◌*◌, ◌/◌, min, ◌≡◌, Bool, true, cond, ◌&&◌, List, [], ◌∷◌, ◌++◌, length, take, drop, replicate, leb, Float}
use Rattle.std.specs.Float.Ieee.{le, eq}
use Rattle.refusals.specs.Refusals.{not_finite, not_a_text, few_lines, torn}
use Rattle.refusals.specs.Limits.{most_segments, most_text}
use Rattle.float.specs.F32.{f0, f1}
use Rattle.blend.specs.declared.Rgba.{Rgba}
use Rattle.stops.specs.Stops.{finite_rgba}
use Rattle.stops.specs.Lent.{Change}
use Rattle.gradient.specs.declared.gimp.Segment.{Segment}
use Rattle.text.specs.Text.{every, ascii, unmark}
use Rattle.segment.specs.declared.Rules.{Rules}
use Rattle.segment.specs.declared.Rules.TheVariants.{Published, Saved}
use Rattle.segment.specs.declared.SegmentRead.{SegmentRead}
use Rattle.segment.specs.declared.SegmentRead.TheVariants.{Valid, Fault}
use Rattle.segment.specs.Line.{segment_on_line}
use Rattle.segment.specs.Store.{Store, store_of, segment_positions, segment_channels, segment_codes}
use Rattle.header.specs.Head.{Head, counts, fails, head_of, saved_head, name_in}
use Rattle.ggr.specs.declared.Answer.{Answer}
use Rattle.ggr.specs.declared.Answer.TheVariants.{Read, Refused}

-- ---- what a file holds, or the number of a refusal and its line, 0 if none
pub data FileRead : Type 0 where
  found : List Segment → FileRead
  refused : ℕ → ℕ → FileRead

-- ---- the segment lines: line by line 12, 16, 18; then 13; then the last end 18

-- A segment joins what ends at `end`: it starts there, and left ≤ middle ≤ right. Values are compared, so that -0 is 0.
unfoldable pub joins : Float → Segment → Bool
joins end g = eq g.left end && (le g.left g.middle && le g.middle g.right)

-- a line is torn where it holds a segment that does not join what ends at `end`
unfoldable pub joined_to : Float → SegmentRead → SegmentRead
joined_to end (Valid g) = cond (joins end g) (Valid g) (Fault torn)
joined_to end (Fault number) = Fault number

-- a segment, and what follows it
unfoldable pub before : Segment → FileRead → FileRead
before g (found gs) = found (g ∷ gs)
before g (refused number line) = refused number line

-- what a line holds, and what follows its segment
unfoldable pub add_segment : ℕ → SegmentRead → (Segment → FileRead) → FileRead
add_segment line (Valid g) rest = before g (rest g)
add_segment line (Fault number) rest = refused number line

-- the next n segments, the first of them at this line, where the one before ends at `end`; what follows is not read
unfoldable pub segment_lines : Rules → Rgba → Rgba → ℕ → ℕ → Float → List (List ℕ) → FileRead
segment_lines rules fg bg zero line end ls = cond (eq end f1) (found []) (refused torn (line - 1))
segment_lines rules fg bg (suc n) line end [] = refused few_lines 3
segment_lines rules fg bg (suc n) line end (l ∷ ls) =
    add_segment line (joined_to end (segment_on_line rules fg bg l)) (λ g. segment_lines rules fg bg n (suc line) g.right ls)

-- ---- the bytes of a text, else 10

-- bytes at most, marks counted; 256 segments as long as GIMP writes them are 72,508
abbrev pub most_bytes : Rules → ℕ
most_bytes Published = most_text
most_bytes Saved = 131072

-- document 01 wants every byte ASCII; in what GIMP saves the first three lines are looked at, before the others
abbrev pub good_bytes : Rules → List ℕ → Bool
good_bytes Published s = every ascii (unmark s)
good_bytes Saved s = saved_head s

abbrev pub fit_text : Rules → List ℕ → Bool
fit_text rules s = leb (length s) (most_bytes rules) && good_bytes rules s

-- then the segment lines that the header counts; what follows those is not looked at
unfoldable pub ascii_lines : ℕ → List (List ℕ) → Bool
ascii_lines zero ls = true
ascii_lines (suc n) [] = true
ascii_lines (suc n) (l ∷ ls) = every ascii l && ascii_lines n ls

abbrev pub fit_lines : Rules → ℕ → List (List ℕ) → Bool
fit_lines Published n ls = true
fit_lines Saved n ls = ascii_lines n ls

-- the segments that the header counts, from line 4 and from 0 on
unfoldable pub from_head : Rules → Rgba → Rgba → Head → FileRead
from_head rules fg bg (counts n ls) = cond (fit_lines rules n ls) (segment_lines rules fg bg n 4 f0 ls) (refused not_a_text 0)
from_head rules fg bg (fails number line) = refused number line

-- ---- the file: foreground or background not finite is 2, first of all; then 10; then the lines
unfoldable pub file_of : Rules → ℕ → Rgba → Rgba → List ℕ → FileRead
file_of rules room fg bg s =
    cond (finite_rgba fg && finite_rgba bg)
    (cond (fit_text rules s) (from_head rules fg bg (head_of room s)) (refused not_a_text 0))
    (refused not_finite 0)

-- ---- what is answered and written

-- each case of the answer: how many segments, or document 01's number and line
abbrev pub answer_of : FileRead → Answer
answer_of (found gs) = Read (length gs)
answer_of (refused number line) = Refused number line

-- document 01's number and line of each answer, 0 for none, and its value, the number of segments
abbrev pub number_of_answer : Answer → ℕ
number_of_answer (Read n) = 0
number_of_answer (Refused number line) = number

abbrev pub line_of_answer : Answer → ℕ
line_of_answer (Read n) = 0
line_of_answer (Refused number line) = line

abbrev pub segments_of_answer : Answer → ℕ
segments_of_answer (Read n) = n
segments_of_answer (Refused number line) = 0

-- and the same of what a file holds
abbrev pub number_in : FileRead → ℕ
number_in (found gs) = 0
number_in (refused number line) = number

abbrev pub line_in : FileRead → ℕ
line_in (found gs) = 0
line_in (refused number line) = line

abbrev pub segments_in : FileRead → ℕ
segments_in (found gs) = length gs
segments_in (refused number line) = 0

-- the items of each segment, one after the other
unfoldable pub flat {ℓ} : {A : Type ℓ} → (Segment → List A) → List Segment → List A
flat f [] = []
flat f (g ∷ gs) = f g ++ flat f gs

-- these at the front of a list; past the last item it keeps its bytes
abbrev pub at_front {ℓ} : {A : Type ℓ} → (Segment → List A) → List Segment → List A → List A
at_front f gs old = flat f gs ++ drop (length (flat f gs)) old

-- what reading leaves in its outputs: the segments of the file at the front. A refusal sets the whole lent output to zero.
unfoldable pub store_left : FileRead → Store → Store
store_left (found gs) s = store_of (at_front segment_positions gs s.positions) (at_front segment_channels gs s.channels) (at_front segment_codes gs s.codes)
store_left (refused number line) s = store_of (replicate (length s.positions) f0) (replicate (length s.channels) f0) (replicate (length s.codes) 0)

-- room is the whole items that every lent output holds
unfoldable pub segment_room : ℕ → ℕ → ℕ → ℕ
segment_room p c k = min (p / 3) (min (c / 8) (k / 2))

abbrev pub room_in : Store → ℕ
room_in s = segment_room (length s.positions) (length s.channels) (length s.codes)

-- the answer, and the final contents of every lent output
pub record Done (o : FileRead) (store : Change Store) (r : Answer) : Type 0 where
  pub answer : r ≡ answer_of o
  pub number : number_of_answer r ≡ number_in o
  pub line : line_of_answer r ≡ line_in o
  pub segments_read : segments_of_answer r ≡ segments_in o
  pub left : store.exit ≡ store_left o store.entry

-- the promise of reading the text s by these rules
abbrev pub Reading : Rules → Rgba → Rgba → List ℕ → Change Store → Answer → Type 0
Reading rules fg bg s store r = Done (file_of rules (room_in store.entry) fg bg s) store r

-- the positions of n segments that it has left
abbrev pub positions_left : ℕ → Change Store → List Float
positions_left n store = take (3 * n) store.exit.positions

-- ---- the name: the trimmed part of line 2, empty wherever reading with room 256 and finite colours refuses

abbrev pub transparent : Rgba
transparent = record { r = f0; g = f0; b = f0; a = f0 }

unfoldable pub when_read : FileRead → List ℕ → List ℕ
when_read (found gs) n = n
when_read (refused number line) n = []

unfoldable pub name_of : Rules → List ℕ → List ℕ
name_of rules s = when_read (file_of rules most_segments transparent transparent s) (name_in s)
