-- What a text is made of: its marks, lines, words and fields. Document 01, 'What a GIMP file may hold' and 'Tools read standard input ..'.
use Rattle.std.specs.Prelude.{ℕ, Bool, true, false, not, cond, ◌&&◌, ◌||◌, List, [], ◌∷◌, length, leb, eqb}

-- every byte passes the test
unfoldable pub every : (ℕ → Bool) → List ℕ → Bool
every p [] = true
every p (b ∷ s) = p b && every p s

-- a byte of ASCII
abbrev pub ascii : ℕ → Bool
ascii b = leb b 127

-- leading byte-order marks (EF BB BF) are dropped
unfoldable pub unmark : List ℕ → List ℕ
unmark [] = []
unmark (a ∷ []) = a ∷ []
unmark (a ∷ b ∷ []) = a ∷ b ∷ []
unmark (a ∷ b ∷ c ∷ s) = cond (eqb a 0xEF && (eqb b 0xBB && eqb c 0xBF)) (unmark s) (a ∷ b ∷ c ∷ s)

-- ---- lines

-- the next byte is LF
unfoldable pub at_lf : List ℕ → Bool
at_lf [] = false
at_lf (b ∷ s) = eqb b 10

-- a byte put before the first line, word or field; it makes one where there is none
unfoldable pub on_first : ℕ → List (List ℕ) → List (List ℕ)
on_first b [] = (b ∷ []) ∷ []
on_first b (l ∷ ls) = (b ∷ l) ∷ ls

-- Lines end at LF, and a CR just before that LF goes too; a last CR without LF stays. An LF at the very end begins no further line.
unfoldable pub lines : List ℕ → List (List ℕ)
lines [] = []
lines (b ∷ s) = cond (eqb b 10) ([] ∷ lines s) (cond (at_lf s && eqb b 13) (lines s) (on_first b (lines s)))

-- the first line, empty where there is none, and the lines after it
unfoldable pub first_of : List (List ℕ) → List ℕ
first_of [] = []
first_of (l ∷ ls) = l

unfoldable pub rest_of : List (List ℕ) → List (List ℕ)
rest_of [] = []
rest_of (l ∷ ls) = ls

-- ---- words

-- white space is bytes 9 to 13 and 32
unfoldable pub white : ℕ → Bool
white b = eqb b 32 || (leb 9 b && leb b 13)

-- the next byte is of the same word
unfoldable pub in_word : List ℕ → Bool
in_word [] = false
in_word (b ∷ s) = not (white b)

-- the words of a line: the runs of bytes that are no white space
unfoldable pub words : List ℕ → List (List ℕ)
words [] = []
words (b ∷ s) = cond (white b) (words s) (cond (in_word s) (on_first b (words s)) ((b ∷ []) ∷ words s))

-- ---- fields

abbrev pub not_tab : ℕ → Bool
not_tab b = not (eqb b 9)

-- parted by single tabs; an empty text is one empty field
unfoldable pub fields : List ℕ → List (List ℕ)
fields [] = [] ∷ []
fields (b ∷ s) = cond (not_tab b) (on_first b (fields s)) ([] ∷ fields s)

-- ---- what a line is asked

-- s is p, to the byte
unfoldable pub same : List ℕ → List ℕ → Bool
same [] [] = true
same [] (b ∷ s) = false
same (a ∷ p) [] = false
same (a ∷ p) (b ∷ s) = eqb b a && same p s

-- s begins with p
unfoldable pub starts : List ℕ → List ℕ → Bool
starts [] s = true
starts (a ∷ p) [] = false
starts (a ∷ p) (b ∷ s) = eqb b a && starts p s

-- without white space at the front, at the end, at either
unfoldable pub trim_start : List ℕ → List ℕ
trim_start [] = []
trim_start (b ∷ s) = cond (white b) (trim_start s) (b ∷ s)

unfoldable pub trim_end : List ℕ → List ℕ
trim_end [] = []
trim_end (b ∷ s) = let t = trim_end s in cond (white b && eqb (length t) 0) [] (b ∷ t)

unfoldable pub trim : List ℕ → List ℕ
trim s = trim_end (trim_start s)
