-- When a sampling says no, and what it answers and leaves in the lent record. Document 01's number and values for each case of its answer.
use Rattle.std.specs.Prelude.{Bool, cond, ◌&&◌, ◌||◌, List, [], ◌∷◌, ℕ, eqb, length, Float}
use Rattle.std.specs.Float.{binary32}
use Rattle.std.specs.Float.Ieee.{to_bits, neg, lt}
use Rattle.refusals.specs.Refusals.{far_domain, bad_record}
use Rattle.stops.specs.declared.Checked.{Checked}
use Rattle.stops.specs.declared.Checked.TheVariants as checked
use Rattle.stops.specs.Answers.{on_fine}
use Rattle.stops.specs.Lent.{Ramp}
use Rattle.stops.specs.declared.Kind.{Kind}
use Rattle.gradient.specs.Ramp.{check_of, min_in, max_in, min_of, max_of, colour_of}
use Rattle.difference.specs.Difference.{differs}
use Rattle.sampling.specs.Constants.{cells, record_length, marks_length, farthest, threshold_of}
use Rattle.sampling.specs.Lent.{Held, held_of}
use Rattle.sampling.specs.Midpoints.{Far}
use Rattle.sampling.specs.Cells.{rows_of, counts_of, sampling_evaluations}
use Rattle.sampling.specs.declared.Sampled.{Sampled}
use Rattle.sampling.specs.declared.Sampled.TheVariants as sampled

-- the number of a refusal (0 for none), and the values beside it
abbrev pub number_of_sampled : Sampled → ℕ
number_of_sampled (sampled.Done e) = 0
number_of_sampled (sampled.Refused n) = n

abbrev pub evaluations_of_sampled : Sampled → ℕ
evaluations_of_sampled (sampled.Done e) = e
evaluations_of_sampled (sampled.Refused n) = 0

-- one check after another: the first refusal stands
abbrev pub and_then : Checked → Checked → Checked
and_then checked.Fine k = k
and_then (checked.Refused n) k = checked.Refused n

-- beyond plus or minus 1e38
unfoldable pub beyond_of : Float → Bool
beyond_of x = lt x (neg farthest) || lt farthest x

-- 4 of a domain, then 5 of a record's lengths
unfoldable pub shape_check : Float → Float → ℕ → ℕ → ℕ → Checked
shape_check lo hi rows counts marks =
    cond (beyond_of lo || beyond_of hi) (checked.Refused far_domain)
    (cond (eqb rows record_length && (eqb counts cells && eqb marks marks_length)) checked.Fine (checked.Refused bad_record))

-- refusals 1, then stop by stop 2, 3; then 4, 5
module _ (ramp : Ramp) where
  unfoldable pub sample_check : ℕ → ℕ → ℕ → Checked
  sample_check rows counts marks = and_then (check_of ramp) (shape_check (min_of ramp) (max_of ramp) rows counts marks)

  abbrev pub held_check : Held → Checked
  held_check was = sample_check (length was.rows) (length was.counts) (length was.marks)

-- ---- the call: a ramp, a threshold as it was asked for, and what was lent

abbrev pub far_of : Float → Far
far_of asked = differs (threshold_of asked)

-- the words of a record: the bits of the threshold in force, of min and of max
abbrev pub words_of : Float → Float → Float → List ℕ
words_of threshold lo hi = to_bits binary32 threshold ∷ to_bits binary32 lo ∷ to_bits binary32 hi ∷ []

abbrev pub marks_in : Kind → List Float → Float → List ℕ
marks_in kind ps asked = words_of (threshold_of asked) (min_in kind ps) (max_in kind ps)

abbrev pub marks_of : Ramp → Float → List ℕ
marks_of ramp = marks_in ramp.kind ramp.positions

module _ (ramp : Ramp) (asked : Float) where
  -- a fresh sampling
  unfoldable pub fresh : Held
  fresh =
      held_of (rows_of (colour_of ramp) (far_of asked) (min_of ramp) (max_of ramp))
      (counts_of (colour_of ramp) (far_of asked) (min_of ramp) (max_of ramp))
      (marks_of ramp asked)

  unfoldable pub fresh_evaluations : ℕ
  fresh_evaluations = sampling_evaluations (colour_of ramp) (far_of asked) (min_of ramp) (max_of ramp)

  module _ (was : Held) where
    -- sampling: the record is the ramp's, or as it was
    unfoldable pub sample_answer : Sampled
    sample_answer = on_fine (held_check ramp was) (sampled.Done fresh_evaluations) sampled.Refused

    unfoldable pub sample_held : Held
    sample_held = on_fine (held_check ramp was) fresh (λ n. was)

    unfoldable pub sample_evaluations : ℕ
    sample_evaluations = on_fine (held_check ramp was) fresh_evaluations (λ n. 0)
