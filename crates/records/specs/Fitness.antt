-- When a record may be thinned or refreshed: its counts, and that it was sampled with this threshold on this domain.
use Rattle.std.specs.Prelude.{Bool, true, false, cond, ◌&&◌, List, [], ◌∷◌, ℕ, leb, eqb, Float}
use Rattle.refusals.specs.Refusals.{bad_record, other_threshold}
use Rattle.stops.specs.declared.Checked.{Checked}
use Rattle.stops.specs.declared.Checked.TheVariants as checked
use Rattle.stops.specs.Lent.{Ramp}
use Rattle.sampling.specs.Constants.{row_length}
use Rattle.sampling.specs.Lent.{Held}
use Rattle.sampling.specs.Sampling.{and_then, held_check, marks_of}

-- every count is 1 to 128
unfoldable pub counts_good : List ℕ → Bool
counts_good [] = true
counts_good (n ∷ ns) = leb 1 n && (leb n row_length && counts_good ns)

unfoldable pub counts_check : List ℕ → Checked
counts_check counts = cond (counts_good counts) checked.Fine (checked.Refused bad_record)

-- two records' words, bit for bit
unfoldable pub same_words : List ℕ → List ℕ → Bool
same_words [] [] = true
same_words [] (w ∷ ws) = false
same_words (v ∷ vs) [] = false
same_words (v ∷ vs) (w ∷ ws) = eqb v w && same_words vs ws

-- 20 of a record whose words are not the call's own
unfoldable pub marks_check : List ℕ → List ℕ → Checked
marks_check own marks = cond (same_words marks own) checked.Fine (checked.Refused other_threshold)

-- refusals 1, then stop by stop 2, 3; then 4, 5; then 5 of a count; then 20
unfoldable pub thin_check : Ramp → Float → Held → Checked
thin_check ramp asked was = and_then (held_check ramp was) (and_then (counts_check was.counts) (marks_check (marks_of ramp asked) was.marks))
