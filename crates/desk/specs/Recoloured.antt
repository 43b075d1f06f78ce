-- A text with an `edit` beside one with the changed stop and no `edit`: what is the same of what is printed for them.
use Rattle.std.specs.Prelude.{ℕ, zero, suc, ◌≤◌, ◌≡◌, Bool, true, not, cond, ◌&&◌, List, [], ◌∷◌, ◌++◌, length, take, drop, eqb}
use Rattle.blend.specs.declared.Rgba.{Rgba}
use Rattle.blend.specs.declared.Stop.{Stop}
use Rattle.text.specs.Text.{every, lines, fields}
use Rattle.entries.specs.Entries.{stop_tag, entry_of}
use Rattle.entries.specs.Input.{most_bytes, if_stop}
use Rattle.writing.specs.Printed.{refused_text}
use Rattle.entries.specs.declared.fields.Recolour.{Recolour}
use Rattle.entries.specs.declared.fields.Entry.TheVariants as entry

-- the stops with another colour at stop k
unfoldable pub recoloured : List Stop → ℕ → Rgba → List Stop
recoloured [] k c = []
recoloured (s ∷ ss) zero c = record { position = s.position; colour = c } ∷ ss
recoloured (s ∷ ss) (suc k) c = s ∷ recoloured ss k c

-- the first line of a text that is printed, and everything after the LF that ends it
unfoldable pub first_line : List ℕ → List ℕ
first_line [] = []
first_line (b ∷ s) = cond (eqb b 10) [] (b ∷ first_line s)

unfoldable pub after_first : List ℕ → List ℕ
after_first [] = []
after_first (b ∷ s) = cond (eqb b 10) s (after_first s)

-- The same stop lines, byte for byte, after the same first line but for its fourth field, the number of evaluations: `stops`, their number and `evaluations`.
-- Where one of the two is a refusal, which is a line alone, the other is the same refusal.
pub record SameStopLines (x y : List ℕ) : Type 0 where
  pub first : take 3 (fields (first_line x)) ≡ take 3 (fields (first_line y))
  pub rest : after_first x ≡ after_first y
  pub refused : (number : ℕ) → (x ≡ refused_text number → y ≡ refused_text number) × (y ≡ refused_text number → x ≡ refused_text number)

-- ---- the same of the lines of a text

-- a text up to its first tab, with it; and what follows that tab
unfoldable pub to_tab : List ℕ → List ℕ
to_tab [] = []
to_tab (b ∷ s) = cond (eqb b 9) (b ∷ []) (b ∷ to_tab s)

unfoldable pub after_tab : List ℕ → List ℕ
after_tab [] = []
after_tab (b ∷ s) = cond (eqb b 9) s (after_tab s)

-- the line of a stop with the channels that an edit's line has after its index
unfoldable pub changed_line : List ℕ → List ℕ → List ℕ
changed_line stop edit = stop_tag ++ (to_tab (drop 5 stop) ++ after_tab (drop 5 edit))

-- lines with that of stop k changed
unfoldable pub changed_lines : ℕ → List ℕ → List (List ℕ) → List (List ℕ)
changed_lines k edit [] = []
changed_lines zero edit (l ∷ ls) = if_stop (entry_of l) (λ s. changed_line l edit ∷ ls) (l ∷ changed_lines zero edit ls)
changed_lines (suc k) edit (l ∷ ls) = if_stop (entry_of l) (λ s. l ∷ changed_lines k edit ls) (l ∷ changed_lines (suc k) edit ls)

-- The last line of s is the edit's; s' has the lines before it, with that of the stop changed. Any text with these lines: how its lines end is nothing to it.
pub record EditMade (s s' : List ℕ) (e : Recolour) : Type 0 where
  pub body : List (List ℕ)
  pub last : List ℕ
  pub says : entry_of last ≡ entry.Change e
  pub before : lines s ≡ body ++ last ∷ []
  pub after : lines s' ≡ changed_lines e.stop last body
  pub fits : length s' ≤ most_bytes

-- lines written one after the other, each ended by LF; and that no byte of them is LF or CR
unfoldable pub text_of_lines : List (List ℕ) → List ℕ
text_of_lines [] = []
text_of_lines (l ∷ ls) = l ++ 10 ∷ text_of_lines ls

abbrev pub in_line : ℕ → Bool
in_line b = not (eqb b 10) && not (eqb b 13)

unfoldable pub unbroken : List (List ℕ) → Bool
unbroken [] = true
unbroken (l ∷ ls) = every in_line l && unbroken ls
