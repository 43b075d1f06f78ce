-- A segment line of a GIMP file: 12, then 16. Document 01, 'What a GIMP file may hold'; document 02 (i), (ix); and files as GIMP saves them.
use Rattle.std.specs.Prelude.{ℕ, min, ◌≡◌, Bool, cond, ◌&&◌, List, [], ◌∷◌, ◌++◌, length, drop, get_or, leb, eqb, ℤ, pos, negsuc, Float}
use Rattle.std.specs.Float.{nan}
use Rattle.refusals.specs.Refusals.{bad_segment, not_carried}
use Rattle.float.specs.F32.{f0}
use Rattle.float.specs.Number.{whole_of}
use Rattle.blend.specs.declared.Rgba.{Rgba}
use Rattle.stops.specs.declared.Kind.{Kind}
use Rattle.stops.specs.declared.Kind.TheVariants.{Gimp, GimpSaved}
use Rattle.gradient.specs.Gimp.{carried_of}
use Rattle.gradient.specs.declared.gimp.Segment.{Segment}
use Rattle.segment.specs.declared.Rules.{Rules}
use Rattle.segment.specs.declared.Rules.TheVariants.{Published, Saved}
use Rattle.segment.specs.declared.SegmentRead.{SegmentRead}
use Rattle.segment.specs.declared.SegmentRead.TheVariants.{Valid, Fault}
use Rattle.rows.specs.declared.Notation.{Notation}
use Rattle.rows.specs.declared.Notation.TheVariants.{Short, Long}
use Rattle.rows.specs.declared.Parting.TheVariants.{Spaces}
use Rattle.text.specs.Text.{lines, first_of, rest_of, words}
use Rattle.rows.specs.Rows.{Numbers, all, none, numbers, row_at, row_end}

-- ---- the rules that a file is read by: document 01's, or those for what GIMP saves

-- the notation of its numbers
abbrev pub notation_by : Rules → Notation
notation_by Published = Short
notation_by Saved = Long

-- the kind of ramp that its segments make, which says what is carried
abbrev pub kind_by : Rules → Kind
kind_by Published = Gimp
kind_by Saved = GimpSaved

abbrev pub carried_by : Rules → Segment → Bool
carried_by rules g = carried_of (kind_by rules) g

-- ---- codes

-- A code is the whole part toward zero, as a signed number. No code is above 5, so that 6 stands for every number that is none.
unfoldable pub cut : ℤ → ℕ
cut (pos n) = min n 6
cut (negsuc n) = 6

abbrev pub code_of : Float → ℕ
code_of x = cut (whole_of x)

-- blending 0 to 5, colouring 0 to 2, colour codes 0 to 4
unfoldable pub valid_codes : ℕ → ℕ → ℕ → ℕ → Bool
valid_codes blending colouring left right = leb blending 5 && (leb colouring 2 && (leb left 4 && leb right 4))

abbrev pub without_alpha : Rgba → Rgba
without_alpha c = record { r = c.r; g = c.g; b = c.b; a = f0 }

-- 0 own, 1 foreground, 2 foreground with alpha 0, 3 and 4 the same for background
unfoldable pub end_colour : ℕ → Rgba → Rgba → Rgba → Rgba
end_colour code own fg bg =
    cond (eqb code 0) own (cond (eqb code 1) fg (cond (eqb code 2) (without_alpha fg) (cond (eqb code 3) bg (without_alpha bg))))

-- ---- the segment

-- carried: not curved but by the rules for what GIMP saves, and if curved or sinusoidal with a middle that is not outside its ends; or 16
unfoldable pub judge : Rules → Segment → SegmentRead
judge rules g = cond (carried_by rules g) (Valid g) (Fault not_carried)

-- of 15 numbers: left, middle and right position; four left channels; four right; blending; colouring; left and right colour code
unfoldable pub build : Rules → Rgba → Rgba → List Float → SegmentRead
build rules fg bg xs =
    let at : ℕ → Float = λ i. get_or xs i nan in
    let blending = code_of (at 11) in
    let colouring = code_of (at 12) in
    let left = code_of (at 13) in
    let right = code_of (at 14) in
    cond (valid_codes blending colouring left right)
    (judge rules (record {
      left = at 0;
      middle = at 1;
      right = at 2;
      lcolor = end_colour left (record { r = at 3; g = at 4; b = at 5; a = at 6 }) fg bg;
      rcolor = end_colour right (record { r = at 7; g = at 8; b = at 9; a = at 10 }) fg bg;
      blending = blending;
      colouring = colouring;
    }))
    (Fault bad_segment)

-- a segment has 13 or 15 numbers, or is refused with 12; the colour codes are 0 if 13
unfoldable pub from_numbers : Rules → Rgba → Rgba → Numbers → SegmentRead
from_numbers rules fg bg none = Fault bad_segment
from_numbers rules fg bg (all xs) =
    cond (eqb (length xs) 13) (build rules fg bg (xs ++ f0 ∷ f0 ∷ []))
    (cond (eqb (length xs) 15) (build rules fg bg xs) (Fault bad_segment))

-- the numbers are the words of the line
unfoldable pub segment_on_line : Rules → Rgba → Rgba → List ℕ → SegmentRead
segment_on_line rules fg bg l = from_numbers rules fg bg (numbers (notation_by rules) (words l))

-- document 01's number of what a line holds, 0 for a segment; its line is the reader's to tell
abbrev pub number_of_segment : SegmentRead → ℕ
number_of_segment (Valid g) = 0
number_of_segment (Fault number) = number

-- the line at `at` holds this; `next` is where the line after it starts, or `at` where there are no numbers, and after a valid segment the lines go on there
pub record SegmentAt (rules : Rules) (fg bg : Rgba) (s : List ℕ) (at : ℕ) (o : SegmentRead) (next : ℕ) : Type 0 where
  pub is : o ≡ segment_on_line rules fg bg (first_of (lines (drop at s)))
  pub number : number_of_segment o ≡ number_of_segment (segment_on_line rules fg bg (first_of (lines (drop at s))))
  pub goes_on : next ≡ cond (eqb (length (row_at (notation_by rules) Spaces s at)) 0) at (row_end Spaces s at)
  pub rest : (g : Segment) → o ≡ Valid g → lines (drop next s) ≡ rest_of (lines (drop at s))
