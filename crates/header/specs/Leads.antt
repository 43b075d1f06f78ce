-- A header read: what it says, with the place in the text where line 4 starts.
use Rattle.std.specs.Prelude.{ℕ, ◌-◌, ◌≤◌, ◌≡◌, List, length, drop}
use Rattle.refusals.specs.Limits.{most_segments}
use Rattle.text.specs.Text.{unmark, lines}
use Rattle.text.specs.Places.{lf_at, next_after}
use Rattle.header.specs.declared.Lead.{Lead}
use Rattle.header.specs.declared.Lead.TheVariants.{Counted, Refuse}
use Rattle.header.specs.Head.{Head, counts, fails, head_of}

-- the line after the one at `at` starts here
abbrev pub next_at : List ℕ → ℕ → ℕ
next_at s at = next_after (lf_at s at) (length s)

-- line 1 starts after the marks
abbrev pub fourth_at : List ℕ → ℕ
fourth_at s = next_at s (next_at s (next_at s (length s - length (unmark s))))

-- a head as an answer, where line 4 starts at `at`
unfoldable pub lead_of : Head → ℕ → Lead
lead_of (counts n ls) at = Counted n at
lead_of (fails number line) at = Refuse number line

-- the number of a refusal (0 for none), its line, and the value beside them
abbrev pub number_of_lead : Lead → ℕ
number_of_lead (Counted n at) = 0
number_of_lead (Refuse number line) = number

abbrev pub line_of_lead : Lead → ℕ
line_of_lead (Counted n at) = 0
line_of_lead (Refuse number line) = line

abbrev pub segments_of_lead : Lead → ℕ
segments_of_lead (Counted n at) = n
segments_of_lead (Refuse number line) = 0

-- and an answer as a head
unfoldable pub head_by : Lead → List ℕ → Head
head_by (Refuse number line) s = fails number line
head_by (Counted n at) s = counts n (lines (drop at s))

unfoldable pub lead_fits : ℕ → Lead → Type 0
lead_fits room (Refuse number line) = Unit {0}
lead_fits room (Counted n at) = (n ≤ most_segments) × (n ≤ room)

-- r is the answer for the head h of the text s, whose line 4 starts at `fourth`; a count fits its limits
pub record LeadsTo (room : ℕ) (h : Head) (fourth : ℕ) (s : List ℕ) (r : Lead) : Type 0 where
  pub is : r ≡ lead_of h fourth
  pub number : number_of_lead r ≡ number_of_lead (lead_of h fourth)
  pub line : line_of_lead r ≡ line_of_lead (lead_of h fourth)
  pub segments : segments_of_lead r ≡ segments_of_lead (lead_of h fourth)
  pub same : h ≡ head_by r s
  pub fits : lead_fits room r

-- the promise of reading a header
abbrev pub Leads : ℕ → List ℕ → Lead → Type 0
Leads room s r = LeadsTo room (head_of room s) (fourth_at s) s r
