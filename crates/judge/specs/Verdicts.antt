-- The verdict on a list, in the order of the checks. Document 02 (xi). Document 01's number for each case of the answer.
use Rattle.std.specs.Prelude.{ℕ, zero, suc, ◌+◌, ◌-◌, Bool, cond, List, ltb, length, get_or, Float}
use Rattle.std.specs.Float.{nan}
use Rattle.std.specs.Float.Ieee.{le, eq}
use Rattle.stops.specs.Answers.{on_fine}
use Rattle.stops.specs.Lent.{Ramp}
use Rattle.stops.specs.Stops.{pos_at}
use Rattle.stops.specs.declared.Checked.{Checked}
use Rattle.gradient.specs.Ramp.{min_of, max_of, colour_of}
use Rattle.difference.specs.Difference.{distance_of}
use Rattle.sampling.specs.Constants.{cells, record_length, marks_length, threshold_of}
use Rattle.sampling.specs.Midpoints.{Gradient}
use Rattle.sampling.specs.Cells.{edge_of, points_of}
use Rattle.sampling.specs.Sampling.{sample_check, far_of}
use Rattle.judge.specs.Lists.{Offer, sized, first_failing, first_bad, offered_ramp}
use Rattle.judge.specs.declared.Verdict.{Verdict}
use Rattle.judge.specs.declared.Verdict.TheVariants.{Yes, WrongLength, BadStop, WrongFirst, WrongLast, TooFar, Refused}

-- the number of a refusal, 0 for none: a bad list is a no, never a refusal
abbrev pub number_of_verdict : Verdict → ℕ
number_of_verdict Yes = 0
number_of_verdict WrongLength = 0
number_of_verdict (BadStop stop) = 0
number_of_verdict WrongFirst = 0
number_of_verdict WrongLast = 0
number_of_verdict (TooFar row index t) = 0
number_of_verdict (Refused n) = n

-- refusals 1 to 4: those of a sampling into a record of the right lengths
abbrev pub ramp_check : Ramp → Checked
ramp_check ramp = sample_check ramp record_length cells marks_length

-- ---- the points
-- two gradients differ at t by no more than the threshold, clamped; a difference that is not a number is more
unfoldable pub close : Gradient → Gradient → Float → Float → Bool
close g h threshold t = le (distance_of (g t) (h t)) threshold

-- rows of points, as many in row i as count i says
module _ (near : Float → Bool) (count : ℕ → ℕ) (point : ℕ → ℕ → Float) where
  -- the first point of row i that is not near, and count i where all are
  unfoldable pub far_in : ℕ → ℕ
  far_in i = first_failing (λ j. near (point i j)) (count i) 0

  unfoldable pub row_verdict : ℕ → Verdict → Verdict
  row_verdict i after = cond (ltb (far_in i) (count i)) (TooFar i (far_in i) (point i (far_in i))) after

  -- `left` rows from row i on, and what comes after them
  unfoldable pub rows_verdict : ℕ → ℕ → Verdict → Verdict
  rows_verdict zero i after = after
  rows_verdict (suc left) i after = row_verdict i (rows_verdict left (suc i) after)

  -- every row, and then max, which stands at the start of the row after the last
  unfoldable pub all_verdict : Float → Verdict
  all_verdict max = rows_verdict cells 0 (cond (near max) Yes (TooFar cells 0 max))

-- the points of row i of a fresh sampling, and point j of them
module _ (ramp : Ramp) (asked : Float) where
  abbrev pub fresh_row : ℕ → List Float
  fresh_row i = points_of (colour_of ramp) (far_of asked) (edge_of (min_of ramp) (max_of ramp) i) (edge_of (min_of ramp) (max_of ramp) (i + 1))

  abbrev pub point_count : ℕ → ℕ
  point_count i = length (fresh_row i)

  abbrev pub fresh_point : ℕ → ℕ → Float
  fresh_point i j = get_or (fresh_row i) j nan

-- ---- the shape of a list, between the ends of a ramp; `after` is what is said where nothing is wrong with it
module _ (lo hi : Float) (offer : Offer) (after : Verdict) where
  -- the end that is wrong; values are compared, so -0 is 0
  unfoldable pub ends_verdict : Verdict
  ends_verdict =
      cond (eq (pos_at offer.positions 0) lo)
      (cond (eq (pos_at offer.positions (length offer.positions - 1)) hi) after WrongLast)
      WrongFirst

  -- before that the wrong length, then the first failing stop
  unfoldable pub shape_verdict : Verdict
  shape_verdict =
      cond (sized (length offer.positions) (length offer.channels))
      (cond (ltb (first_bad offer) (length offer.positions)) (BadStop (first_bad offer)) ends_verdict)
      WrongLength

-- ---- the call: a ramp, a threshold as it was asked for, and the list that is offered
module _ (ramp : Ramp) (asked : Float) (offer : Offer) where
  abbrev pub close_at : Float → Bool
  close_at = close (colour_of ramp) (colour_of (offered_ramp offer)) (threshold_of asked)

  -- the position that is too far
  unfoldable pub points_verdict : Verdict
  points_verdict = all_verdict close_at (point_count ramp asked) (fresh_point ramp asked) (max_of ramp)

  -- before it what is wrong with its shape
  unfoldable pub list_verdict : Verdict
  list_verdict = shape_verdict (min_of ramp) (max_of ramp) offer points_verdict

  -- before all of it the ramp's refusal
  unfoldable pub verdict_of : Verdict
  verdict_of = on_fine (ramp_check ramp) list_verdict Refused
