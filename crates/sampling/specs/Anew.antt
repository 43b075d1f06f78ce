-- A record sampled anew where cells are not kept: a kept cell keeps its row and count, whatever stands there.
use Rattle.std.specs.Prelude.{Bool, false, cond, List, [], ◌∷◌, ℕ, ◌*◌, take, drop, get_or, Float}
use Rattle.stops.specs.Answers.{on_fine}
use Rattle.stops.specs.Lent.{Ramp}
use Rattle.gradient.specs.Ramp.{min_of, max_of, colour_of}
use Rattle.sampling.specs.Constants.{cells, row_length}
use Rattle.sampling.specs.Midpoints.{Gradient, Far}
use Rattle.slices.specs.Joined.{joined, summed}
use Rattle.sampling.specs.Cells.{cell_row, cell_count, cell_tries}
use Rattle.sampling.specs.Lent.{Held, held_of}
use Rattle.sampling.specs.Sampling.{far_of, marks_of, held_check}
use Rattle.sampling.specs.declared.Sampled.{Sampled}
use Rattle.sampling.specs.declared.Sampled.TheVariants as sampled

module _ (g : Gradient) (far : Far) (keep : ℕ → Bool) (lo hi : Float) where
  -- cell i's row, count and tries
  unfoldable pub anew_row : List Float → ℕ → List Float
  anew_row rows i = cond (keep i) (take row_length (drop (i * row_length) rows)) (cell_row g far lo hi i)

  unfoldable pub anew_count : List ℕ → ℕ → ℕ
  anew_count counts i = cond (keep i) (get_or counts i 0) (cell_count g far lo hi i)

  unfoldable pub anew_tries : ℕ → ℕ
  anew_tries i = cond (keep i) 0 (cell_tries g far lo hi i)

  -- the record's rows and counts, and the evaluations: 3 for each try in the cells redone
  unfoldable pub anew_rows : List Float → List Float
  anew_rows rows = joined (anew_row rows) cells

  unfoldable pub anew_counts : List ℕ → List ℕ
  anew_counts counts = joined (λ i. anew_count counts i ∷ []) cells

  unfoldable pub anew_evaluations : ℕ
  anew_evaluations = 3 * summed anew_tries cells

-- the cells kept, as a list says
abbrev pub kept_by : List Bool → ℕ → Bool
kept_by ks i = get_or ks i false

-- ---- the call: a ramp, a threshold as it was asked for, the cells kept, and what was lent
module _ (ramp : Ramp) (asked : Float) (ks : List Bool) where
  unfoldable pub resampled : Held → Held
  resampled was =
      held_of (anew_rows (colour_of ramp) (far_of asked) (kept_by ks) (min_of ramp) (max_of ramp) was.rows)
      (anew_counts (colour_of ramp) (far_of asked) (kept_by ks) (min_of ramp) (max_of ramp) was.counts)
      (marks_of ramp asked)

  unfoldable pub resampled_evaluations : ℕ
  resampled_evaluations = anew_evaluations (colour_of ramp) (far_of asked) (kept_by ks) (min_of ramp) (max_of ramp)

  module _ (was : Held) where
    -- the record is sampled anew but for the cells kept, or as it was
    unfoldable pub resample_answer : Sampled
    resample_answer = on_fine (held_check ramp was) (sampled.Done resampled_evaluations) sampled.Refused

    unfoldable pub resample_held : Held
    resample_held = on_fine (held_check ramp was) (resampled was) (λ n. was)

    unfoldable pub resample_evaluations : ℕ
    resample_evaluations = on_fine (held_check ramp was) resampled_evaluations (λ n. 0)
