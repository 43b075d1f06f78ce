-- A line of the input. Document 01, 'Tools read standard input ..': fields parted by tabs, a word first, then what belongs to it.
use Rattle.std.specs.Prelude.{ℕ, ◌+◌, false, cond, List, [], ◌∷◌, length, drop, get_or, leb, eqb, Float, Option, Some, None}
use Rattle.std.specs.Float.{nan}
use Rattle.blend.specs.declared.Rgba.{Rgba}
use Rattle.stops.specs.declared.Kind.TheVariants.{Linear, Smoothstep}
use Rattle.text.specs.Text.{fields, same, starts}
use Rattle.rows.specs.Digits.{digits_with}
use Rattle.rows.specs.Rows.{Numbers, all, none, numbers}
use Rattle.rows.specs.declared.Notation.TheVariants.{Short}
use Rattle.entries.specs.declared.fields.Entry.{Entry}
use Rattle.entries.specs.declared.fields.Entry.TheVariants as entry

-- n numbers, no more and no fewer, make an entry
unfoldable pub exactly : ℕ → (List Float → Entry) → Numbers → Entry
exactly n make none = entry.Unread
exactly n make (all xs) = cond (eqb (length xs) n) (make xs) entry.Unread

-- four channels, the first of them at i
abbrev pub channels_at : List Float → ℕ → Rgba
channels_at xs i = record { r = get_or xs i nan; g = get_or xs (i + 1) nan; b = get_or xs (i + 2) nan; a = get_or xs (i + 3) nan }

-- ---- what follows each word

abbrev pub to_threshold : List Float → Entry
to_threshold xs = entry.Threshold (get_or xs 0 nan)

unfoldable pub threshold_entry : List (List ℕ) → Entry
threshold_entry fs = exactly 1 to_threshold (numbers Short fs)

-- position, then channels
abbrev pub to_stop : List Float → Entry
to_stop xs = entry.Stop (record { position = get_or xs 0 nan; colour = channels_at xs 1 })

unfoldable pub stop_entry : List (List ℕ) → Entry
stop_entry fs = exactly 5 to_stop (numbers Short fs)

-- an index of 1 to 18 digits, and no plus
abbrev pub index_digits : ℕ
index_digits = 18

unfoldable pub stop_index_of : List ℕ → Option ℕ
stop_index_of f = cond (leb (length f) index_digits) (digits_with false f) None

abbrev pub to_change : ℕ → List Float → Entry
to_change k xs = entry.Change (record { stop = k; colour = channels_at xs 0 })

unfoldable pub change_entry : Option ℕ → List (List ℕ) → Entry
change_entry None fs = entry.Unread
change_entry (Some k) fs = exactly 4 (to_change k) (numbers Short fs)

unfoldable pub edit_entry : List (List ℕ) → Entry
edit_entry [] = entry.Unread
edit_entry (f ∷ fs) = change_entry (stop_index_of f) fs

-- ---- the line

-- `stop`, `threshold` and `edit`, each with its tab; `kind`, tab, `linear` or `smoothstep`
abbrev pub stop_tag : List ℕ
stop_tag = 115 ∷ 116 ∷ 111 ∷ 112 ∷ 9 ∷ []

abbrev pub threshold_tag : List ℕ
threshold_tag = 116 ∷ 104 ∷ 114 ∷ 101 ∷ 115 ∷ 104 ∷ 111 ∷ 108 ∷ 100 ∷ 9 ∷ []

abbrev pub edit_tag : List ℕ
edit_tag = 101 ∷ 100 ∷ 105 ∷ 116 ∷ 9 ∷ []

abbrev pub kind_linear : List ℕ
kind_linear = 107 ∷ 105 ∷ 110 ∷ 100 ∷ 9 ∷ 108 ∷ 105 ∷ 110 ∷ 101 ∷ 97 ∷ 114 ∷ []

abbrev pub kind_smoothstep : List ℕ
kind_smoothstep = 107 ∷ 105 ∷ 110 ∷ 100 ∷ 9 ∷ 115 ∷ 109 ∷ 111 ∷ 111 ∷ 116 ∷ 104 ∷ 115 ∷ 116 ∷ 101 ∷ 112 ∷ []

-- what a line says; Unread where it fits no form
unfoldable pub entry_of : List ℕ → Entry
entry_of l =
    cond (starts stop_tag l) (stop_entry (fields (drop 5 l)))
    (cond (same kind_linear l) (entry.Ramp Linear)
    (cond (same kind_smoothstep l) (entry.Ramp Smoothstep)
    (cond (starts threshold_tag l) (threshold_entry (fields (drop 10 l)))
    (cond (starts edit_tag l) (edit_entry (fields (drop 5 l))) entry.Unread))))
