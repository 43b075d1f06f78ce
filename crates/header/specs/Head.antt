-- The header of a GIMP file, its first three lines, and the name in it. Document 01, 'What a GIMP file may hold' and 'When the desk says no': line by line 11, 15; then 14.
use Rattle.std.specs.Prelude.{ℕ, zero, suc, Bool, true, cond, ◌&&◌, List, [], ◌∷◌, drop, leb, Option, Some, None}
use Rattle.refusals.specs.Refusals.{bad_header, no_segment, too_many_segments}
use Rattle.refusals.specs.Limits.{most_segments}
use Rattle.rows.specs.Digits.{digits_with}
use Rattle.text.specs.Text.{every, ascii, unmark, lines, first_of, rest_of, same, starts, trim}
use Rattle.text.specs.Utf8.{utf8}

-- ---- the lines of a file: those after its marks; marks alone leave an empty line 1

unfoldable pub or_empty : List (List ℕ) → List (List ℕ)
or_empty [] = [] ∷ []
or_empty (l ∷ ls) = l ∷ ls

unfoldable pub text_lines : List ℕ → List (List ℕ)
text_lines [] = []
text_lines (b ∷ s) = or_empty (lines (unmark (b ∷ s)))

-- ---- the header. Text that ends before line 3 has count 0

-- how many segments, and the lines from line 4 on; or the number of a refusal and its line
pub data Head : Type 0 where
  counts : ℕ → List (List ℕ) → Head
  fails : ℕ → ℕ → Head

-- the count of line 3: digits, before which one plus may stand, up to 2^64 - 1
abbrev pub segment_count : List ℕ → Option ℕ
segment_count l = digits_with true l

-- count 0 is no segment
unfoldable pub from_count : ℕ → List (List ℕ) → Head
from_count zero ls = fails no_segment 4
from_count (suc n) ls = counts (suc n) ls

unfoldable pub counted : ℕ → Option ℕ → List (List ℕ) → Head
counted room None ls = fails bad_header 3
counted room (Some n) ls = cond (leb n most_segments && leb n room) (from_count n ls) (fails too_many_segments 3)

-- line 3 is the segment count
unfoldable pub from_third : ℕ → List (List ℕ) → Head
from_third room [] = fails no_segment 4
from_third room (l ∷ ls) = counted room (segment_count l) ls

-- `Name:`
abbrev pub name_tag : List ℕ
name_tag = 78 ∷ 97 ∷ 109 ∷ 101 ∷ 58 ∷ []

-- line 2 starts with it
unfoldable pub from_second : ℕ → List (List ℕ) → Head
from_second room [] = fails no_segment 4
from_second room (l ∷ ls) = cond (starts name_tag l) (from_third room ls) (fails bad_header 2)

-- `GIMP Gradient`
abbrev pub title : List ℕ
title = 71 ∷ 73 ∷ 77 ∷ 80 ∷ 32 ∷ 71 ∷ 114 ∷ 97 ∷ 100 ∷ 105 ∷ 101 ∷ 110 ∷ 116 ∷ []

-- line 1 is exactly that
unfoldable pub from_lines : ℕ → List (List ℕ) → Head
from_lines room [] = fails no_segment 4
from_lines room (l ∷ ls) = cond (same title l) (from_second room ls) (fails bad_header 1)

abbrev pub head_of : ℕ → List ℕ → Head
head_of room s = from_lines room (text_lines s)

-- ---- the bytes of lines 1 to 3 in a file as GIMP saves it: the name may be in any script, in UTF-8; all else is ASCII. A line that is not there has none
unfoldable pub saved_lines : List (List ℕ) → Bool
saved_lines ls = every ascii (first_of ls) && (utf8 (first_of (rest_of ls)) && every ascii (first_of (rest_of (rest_of ls))))

abbrev pub saved_head : List ℕ → Bool
saved_head s = saved_lines (text_lines s)

-- ---- the name: what follows `Name:` on line 2, trimmed
unfoldable pub name_in : List ℕ → List ℕ
name_in s = trim (drop 5 (first_of (rest_of (text_lines s))))
