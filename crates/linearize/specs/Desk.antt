-- When a list is refused, and what each call answers and leaves in lent memory. Document 01's number and values for each case of an answer.
use Rattle.std.specs.Prelude.{List, ℕ, zero, suc, ◌+◌, length, Float}
use Rattle.stops.specs.declared.Checked.{Checked}
use Rattle.stops.specs.Answers.{on_fine}
use Rattle.stops.specs.Lent.{Ramp}
use Rattle.gradient.specs.Ramp.{max_of, colour_of}
use Rattle.sampling.specs.Lent.{Held}
use Rattle.sampling.specs.Midpoints.{Gradient, Far}
use Rattle.sampling.specs.Sampling.{held_check, far_of, fresh, fresh_evaluations}
use Rattle.records.specs.Fitness.{thin_check}
use Rattle.linearize.specs.Lent.{Output, output_of}
use Rattle.places.specs.Places.{list_of}
use Rattle.thinning.specs.Counts.{sum_of}
use Rattle.thinning.specs.Kept.{kept_of, refusal_of, room_of, positions_written, channels_written, list_evaluations}
use Rattle.linearize.specs.declared.Listed.{Listed}
use Rattle.linearize.specs.declared.Listed.TheVariants as listed

-- the number of a refusal (0 for none), and the values beside it
abbrev pub number_of_listed : Listed → ℕ
number_of_listed (listed.Done s e) = 0
number_of_listed (listed.Refused n) = n

abbrev pub stops_of_listed : Listed → ℕ
stops_of_listed (listed.Done s e) = s
stops_of_listed (listed.Refused n) = 0

abbrev pub evaluations_of_listed : Listed → ℕ
evaluations_of_listed (listed.Done s e) = e
evaluations_of_listed (listed.Refused n) = 0

-- the answer of a list, of the first refusal among its stops
abbrev pub listed_of : ℕ → ℕ → ℕ → Listed
listed_of zero stops evaluations = listed.Done stops evaluations
listed_of (suc r) stops evaluations = listed.Refused (suc r)

unfoldable pub list_answer : Gradient → Far → ℕ → List Float → Listed
list_answer g far room ts = listed_of (refusal_of g far room ts) (length (kept_of g far ts)) (list_evaluations g far ts)

-- an answer with the evaluations of a sampling added
abbrev pub with_sampling : ℕ → Listed → Listed
with_sampling n (listed.Done s e) = listed.Done s (n + e)
with_sampling n (listed.Refused k) = listed.Refused k

-- the same of any numbers, as far as a count goes: of a ramp's evaluations, of which there are few, both are one (proofs/Lists, after-few)
abbrev pub after_spending : ℕ → Listed → Listed
after_spending n (listed.Done s e) = listed.Done s (sum_of n e)
after_spending n (listed.Refused k) = listed.Refused k

-- an answer of a call, its number and its values, of the check before it and the first refusal among the stops
abbrev pub answer_by : Checked → ℕ → ℕ → ℕ → Listed
answer_by check refusal stops evaluations = on_fine check (listed_of refusal stops evaluations) listed.Refused

abbrev pub number_by : Checked → ℕ → ℕ
number_by check refusal = on_fine check refusal (λ n. n)

abbrev pub unless_refused : ℕ → ℕ → ℕ
unless_refused zero value = value
unless_refused (suc r) value = 0

abbrev pub value_by : Checked → ℕ → ℕ → ℕ
value_by check refusal value = on_fine check (unless_refused refusal value) (λ n. 0)

-- ---- the calls: a ramp, a threshold as it was asked for, and what was lent

-- a ramp's points in a record, and the room of the outputs
abbrev pub points_in : Ramp → Held → List Float
points_in ramp was = list_of was.rows was.counts (max_of ramp)

abbrev pub room : Output → ℕ
room out = room_of out.positions out.channels

module _ (ramp : Ramp) (asked : Float) where
  -- the points ts, written
  abbrev pub written : List Float → Output → Output
  written ts out =
      output_of (positions_written (colour_of ramp) (far_of asked) (room out) ts out.positions)
      (channels_written (colour_of ramp) (far_of asked) (room out) ts out.channels)

  -- flattening: a fresh sampling, then the list of its points
  unfoldable pub flatten_evaluations : ℕ
  flatten_evaluations = fresh_evaluations ramp asked + list_evaluations (colour_of ramp) (far_of asked) (points_in ramp (fresh ramp asked))

  module _ (was : Held) where
    -- thinning a record, and flattening: the list of its points, to the outputs
    unfoldable pub thin_output : Output → Output
    thin_output out = on_fine (thin_check ramp asked was) (written (points_in ramp was) out) (λ n. out)

    unfoldable pub flatten_output : Output → Output
    flatten_output out = on_fine (held_check ramp was) (written (points_in ramp (fresh ramp asked)) out) (λ n. out)
