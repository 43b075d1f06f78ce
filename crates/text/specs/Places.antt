-- Where runs of bytes and lines end. Document 01, 'What a GIMP file may hold': lines end at LF, and a CR just before it goes.
use Rattle.std.specs.Prelude.{ℕ, suc, ◌+◌, ◌-◌, ◌≤◌, ◌≡◌, Bool, not, cond, ◌&&◌, List, [], ◌∷◌, length, take, drop, get_or, eqb, ltb}
use Rattle.text.specs.declared.Class.{Class}
use Rattle.text.specs.declared.Class.TheVariants.{NotLf, White, Blank, NotWhite, NotTab}
use Rattle.text.specs.Text.{white, not_tab, lines, first_of, rest_of}

-- the classes of bytes that the reader scans for; blank is white space within a line
unfoldable pub in_class : Class → ℕ → Bool
in_class NotLf b = not (eqb b 10)
in_class White b = white b
in_class Blank b = white b && not (eqb b 10)
in_class NotWhite b = not (white b)
in_class NotTab b = not_tab b

-- how many bytes at the front pass the test
unfoldable pub span : (ℕ → Bool) → List ℕ → ℕ
span p [] = 0
span p (b ∷ s) = cond (p b) (suc (span p s)) 0

-- the place of the first LF from `at` on, or the end of the text
abbrev pub lf_at : List ℕ → ℕ → ℕ
lf_at s at = at + span (in_class NotLf) (drop at s)

-- of n, the place of an LF in a text of so many bytes or its end: where the line from `at` on ends, which the byte before n tells, and where the next one starts
abbrev pub end_before : ℕ → ℕ → ℕ → ℕ → ℕ
end_before at n size before = cond (ltb n size && (ltb at n && eqb before 13)) (n - 1) n

abbrev pub next_after : ℕ → ℕ → ℕ
next_after n size = cond (ltb n size) (n + 1) n

-- the line that starts at `at` is the bytes up to `end`, and the next one starts at `next`
pub record LineAt (s : List ℕ) (at end next : ℕ) : Type 0 where
  pub ends : end ≡ end_before at (lf_at s at) (length s) (get_or s (lf_at s at - 1) 0)
  pub goes_on : next ≡ next_after (lf_at s at) (length s)
  pub order : at ≤ end
  pub within : at ≤ length s → end ≤ length s
  pub beyond : at ≤ length s → next ≤ length s
  pub first : take (end - at) (drop at s) ≡ first_of (lines (drop at s))
  pub rest : lines (drop next s) ≡ rest_of (lines (drop at s))
