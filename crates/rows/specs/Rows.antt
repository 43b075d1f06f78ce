-- A row of numbers. Document 01: a segment line is numbers parted by white space; a line of the tool's input is fields parted by tabs.
use Rattle.std.specs.Prelude.{ℕ, ◌+◌, ◌-◌, ◌≡◌, cond, List, [], ◌∷◌, ◌++◌, length, drop, replicate, leb, ltb, eqb, Float}
use Rattle.std.specs.Float.Ieee.Scale.{finite}
use Rattle.float.specs.F32.{f0}
use Rattle.decimal.specs.declared.Token.{Token}
use Rattle.decimal.specs.declared.Token.TheVariants.{Number, NoNumber}
use Rattle.decimal.specs.Decimal.{read_of}
use Rattle.decimal.specs.Long.{read_long_of}
use Rattle.rows.specs.declared.Notation.{Notation}
use Rattle.rows.specs.declared.Notation.TheVariants.{Short, Long}
use Rattle.rows.specs.declared.Parting.{Parting}
use Rattle.rows.specs.declared.Parting.TheVariants.{Spaces, Tabs}
use Rattle.text.specs.Text.{lines, first_of, words, fields}
use Rattle.text.specs.Places.{lf_at, next_after}

-- what a word or field is, by the notation that its numbers have: short, as document 01 has them, or long, of which an infinite one is none
unfoldable pub finite_only : Token → Token
finite_only (Number x) = cond (finite x) (Number x) NoNumber
finite_only NoNumber = NoNumber

unfoldable pub token_of : Notation → List ℕ → Token
token_of Short w = read_of w
token_of Long w = finite_only (read_long_of w)

-- the numbers of words or fields: all of them, or none where one is no number
pub data Numbers : Type 0 where
  all : List Float → Numbers
  none : Numbers

unfoldable pub add_number : Token → Numbers → Numbers
add_number (Number x) (all xs) = all (x ∷ xs)
add_number (Number x) none = none
add_number NoNumber o = none

unfoldable pub numbers : Notation → List (List ℕ) → Numbers
numbers notation [] = all []
numbers notation (w ∷ ws) = add_number (token_of notation w) (numbers notation ws)

-- the parts of a row that starts at `at`: the words of the line there, or the fields from there to the end of the text
unfoldable pub parts_at : Parting → List ℕ → ℕ → List (List ℕ)
parts_at Spaces s at = words (first_of (lines (drop at s)))
parts_at Tabs s at = cond (ltb (length s) at) [] (fields (drop at s))

-- where what follows it starts: the next line, or the place past the end
unfoldable pub row_end : Parting → List ℕ → ℕ → ℕ
row_end Spaces s at = next_after (lf_at s at) (length s)
row_end Tabs s at = cond (ltb (length s) at) at (length s + 1)

-- no row that is read has more numbers: a segment's
abbrev pub longest : ℕ
longest = 15

-- the numbers of a row: none of them where a part is no number, or where there are more than the longest row has
unfoldable pub row_numbers : Numbers → List Float
row_numbers none = []
row_numbers (all xs) = cond (leb (length xs) longest) xs []

abbrev pub row_at : Notation → Parting → List ℕ → ℕ → List Float
row_at notation by s at = row_numbers (numbers notation (parts_at by s at))

-- the row at `at` is the first n numbers of d, which is 0 after them; `next` is where what follows it starts, or `at` where there is none
pub record RowAt (notation : Notation) (by : Parting) (s : List ℕ) (at : ℕ) (d : List Float) (n next : ℕ) : Type 0 where
  pub count : n ≡ length (row_at notation by s at)
  pub values : d ≡ row_at notation by s at ++ replicate (longest - length (row_at notation by s at)) f0
  pub goes_on : next ≡ cond (eqb (length (row_at notation by s at)) 0) at (row_end by s at)
