-- A stop list as a GIMP file: what is written, when it is refused, and what is left in the output. Document 02 (v).
use Rattle.std.specs.Prelude.{ℕ, zero, suc, ◌+◌, ◌-◌, ◌*◌, ◌≡◌, Bool, true, not, cond, ◌&&◌, List, [], ◌∷◌, ◌++◌, length, drop, replicate, get_or, T, leb, eqb, Float}
use Rattle.std.specs.Float.{nan, inf, binary32}
use Rattle.std.specs.Float.Ieee.{fits, lt, eq}
use Rattle.refusals.specs.Refusals.{misshapen, falling, no_room, unwritable}
use Rattle.refusals.specs.Limits.{most_written}
use Rattle.float.specs.F32.{◌⊕◌, ◌⊘◌, f0, f1, f2}
use Rattle.blend.specs.declared.Rgba.{Rgba}
use Rattle.blend.specs.declared.Stop.{Stop}
use Rattle.stops.specs.Stops.{pos_at, stop_at}
use Rattle.stops.specs.Lent.{Change}
use Rattle.gradient.specs.declared.gimp.Segment.{Segment}
use Rattle.numerals.specs.Written.{writable, text_of}
use Rattle.text.specs.Output.{count_text}
use Rattle.header.specs.Head.{title, name_tag}
use Rattle.ggr_writing.specs.declared.WriteAnswer.{WriteAnswer}
use Rattle.ggr_writing.specs.declared.WriteAnswer.TheVariants.{Written, Refused}

-- ---- the segments: one for each pair of neighbours, a zero-length pair too, as linear RGB with the middle at the half-way point

abbrev pub segment_between : Stop → Stop → Segment
segment_between a b = record {
  left = a.position;
  middle = (a.position ⊕ b.position) ⊘ f2;
  right = b.position;
  lcolor = a.colour;
  rcolor = b.colour;
  blending = 0;
  colouring = 0;
}

-- n of them, from stop i on
unfoldable pub segments_from : ℕ → ℕ → List Float → List Float → List Segment
segments_from zero i ps cs = []
segments_from (suc n) i ps cs = segment_between (stop_at ps cs i) (stop_at ps cs (i + 1)) ∷ segments_from n (i + 1) ps cs

abbrev pub segments_of : List Float → List Float → List Segment
segments_of ps cs = segments_from (length ps - 1) 0 ps cs

-- ---- the text: one space between numbers, LF line ends

-- a number, and the space after it
unfoldable pub spaced_number : Float → List ℕ
spaced_number x = text_of x ++ 32 ∷ []

unfoldable pub spaced_colour : Rgba → List ℕ
spaced_colour c = spaced_number c.r ++ (spaced_number c.g ++ (spaced_number c.b ++ spaced_number c.a))

-- 13 numbers, of which the two codes are `0 0`
unfoldable pub segment_text : Segment → List ℕ
segment_text g =
    spaced_number g.left ++ (spaced_number g.middle ++ (spaced_number g.right
    ++ (spaced_colour g.lcolor ++ (spaced_colour g.rcolor ++ 48 ∷ 32 ∷ 48 ∷ 10 ∷ []))))

unfoldable pub segments_text : List Segment → List ℕ
segments_text [] = []
segments_text (g ∷ gs) = segment_text g ++ segments_text gs

-- ` flattened`
abbrev pub list_name : List ℕ
list_name = 32 ∷ 102 ∷ 108 ∷ 97 ∷ 116 ∷ 116 ∷ 101 ∷ 110 ∷ 101 ∷ 100 ∷ []

-- `GIMP Gradient`, `Name: flattened`
abbrev pub heading : List ℕ
heading = title ++ (10 ∷ (name_tag ++ (list_name ++ 10 ∷ [])))

-- the heading, the number of segments, a line for each
unfoldable pub file_text : List Segment → List ℕ
file_text gs = heading ++ (count_text (length gs) ++ (10 ∷ segments_text gs))

-- ---- refusals, in this order: 1, then 3 over all stops, then 19, then 7

-- 2 to 257 stops, four channels each, so that every file written can be read
unfoldable pub shaped_list : ℕ → ℕ → Bool
shaped_list n m = leb 2 n && leb n most_written && eqb m (4 * n)

-- no position is below the one before; a not-a-number is below nothing
unfoldable pub rises : Float → List Float → Bool
rises prev [] = true
rises prev (p ∷ ps) = not (lt p prev) && rises p ps

unfoldable pub writable_colour : Rgba → Bool
writable_colour c = writable c.r && writable c.g && writable c.b && writable c.a

-- every number of a segment can be written, the half-way point too
unfoldable pub writable_segment : Segment → Bool
writable_segment g = writable g.left && writable g.middle && writable g.right && writable_colour g.lcolor && writable_colour g.rcolor

-- of n segments from stop i on
unfoldable pub writable_from : ℕ → ℕ → List Float → List Float → Bool
writable_from zero i ps cs = true
writable_from (suc n) i ps cs = writable_segment (segment_between (stop_at ps cs i) (stop_at ps cs (i + 1))) && writable_from n (i + 1) ps cs

-- the first position is 0 and the last 1, by value, and every number can be written
unfoldable pub can_write : List Float → List Float → Bool
can_write ps cs = eq (pos_at ps 0) f0 && eq (pos_at ps (length ps - 1)) f1 && writable_from (length ps - 1) 0 ps cs

-- ---- what is written: a text; or the number of a refusal, which leaves the output as it was, or sets all of it to zero
pub data FileWritten : Type 0 where
  text : List ℕ → FileWritten
  refused : ℕ → FileWritten
  cleared : ℕ → FileWritten

unfoldable pub with_room : ℕ → List ℕ → FileWritten
with_room room t = cond (leb (length t) room) (text t) (cleared no_room)

unfoldable pub file_written_of : ℕ → List Float → List Float → FileWritten
file_written_of room ps cs =
    cond (shaped_list (length ps) (length cs))
    (cond (rises (inf true) ps)
    (cond (can_write ps cs) (with_room room (file_text (segments_of ps cs))) (cleared unwritable))
    (refused falling))
    (refused misshapen)

-- ---- what is answered and left

-- each case of the answer: how many bytes, or document 01's number
abbrev pub write_answer_of : FileWritten → WriteAnswer
write_answer_of (text t) = Written (length t)
write_answer_of (refused number) = Refused number
write_answer_of (cleared number) = Refused number

-- document 01's number of each answer, 0 for none, and its value, the number of bytes
abbrev pub number_of_write_answer : WriteAnswer → ℕ
number_of_write_answer (Written n) = 0
number_of_write_answer (Refused number) = number

abbrev pub bytes_of_write_answer : WriteAnswer → ℕ
bytes_of_write_answer (Written n) = n
bytes_of_write_answer (Refused number) = 0

-- what is left in the output: after a success what lies past the text stays
unfoldable pub left_in : FileWritten → List ℕ → List ℕ
left_in (text t) old = t ++ drop (length t) old
left_in (refused number) old = old
left_in (cleared number) old = replicate (length old) 0

-- the answer with its number and its value, and the final contents of the output
pub record WritesAs (o : FileWritten) (out : Change (List ℕ)) (r : WriteAnswer) : Type 0 where
  pub answer : r ≡ write_answer_of o
  pub number : number_of_write_answer r ≡ number_of_write_answer (write_answer_of o)
  pub bytes : bytes_of_write_answer r ≡ bytes_of_write_answer (write_answer_of o)
  pub left : out.exit ≡ left_in o out.entry

-- the bytes of a segment's line at most: 11 numbers of 18 bytes, each with a space, and the two codes
abbrev pub longest_line : ℕ
longest_line = 213

-- so many bytes are enough for a list of n stops: 34 before the lines
abbrev pub enough_bytes : ℕ → ℕ
enough_bytes n = 34 + longest_line * (n - 1)

-- the promise of writing a list
abbrev pub Writes : List Float → List Float → Change (List ℕ) → WriteAnswer → Type 0
Writes ps cs out r = WritesAs (file_written_of (length out.entry) ps cs) out r

-- the lists are of f32, as all that are lent: what reading back what was written assumes of them
pub record Singles (ps cs : List Float) : Type 0 where
  pub positions : (i : ℕ) → T (fits binary32 (get_or ps i nan))
  pub channels : (i : ℕ) → T (fits binary32 (get_or cs i nan))
