-- A list within a hold: what it is made of, what it answers, what it leaves in the lent outputs.
use Rattle.std.specs.Prelude.{cond, List, ℕ, ◌+◌, min, length, Float}
use Rattle.std.proofs.lemmas.List.Edits.{sets}
use Rattle.std.specs.Float.Ieee.{lt}
use Rattle.std.specs.Float.Ieee.Scale.{finite}
use Rattle.blend.specs.Channels.{colours_of}
use Rattle.stops.specs.Lent.{Ramp}
use Rattle.stops.specs.Answers.{on_fine}
use Rattle.gradient.specs.Ramp.{min_of, max_of, colour_of}
use Rattle.sampling.specs.Constants.{least_threshold, threshold_of}
use Rattle.sampling.specs.Lent.{Held}
use Rattle.sampling.specs.Sampling.{held_check, fresh, fresh_evaluations}
use Rattle.records.specs.Fitness.{thin_check}
use Rattle.thinning.specs.Kept.{written_of}
use Rattle.linearize.specs.Lent.{Output, output_of}
use Rattle.linearize.specs.Desk.{points_in, room, answer_by}
use Rattle.linearize.specs.declared.Listed.{Listed}
use Rattle.judge.specs.Lists.{Offer, offer_of, most_listed}
use Rattle.weighed.specs.Points.{sites_of}
use Rattle.within.specs.Shown.{near_within}
use Rattle.within.specs.Kept.{Kept, kept_all, positions_of, kept_refusals}

-- the hold in force: not finite it is the least threshold, else it is taken into that .. the threshold in force
unfoldable pub hold_of : Float → Float → Float
hold_of asked hold =
    cond (finite hold)
    (cond (lt hold least_threshold) least_threshold (cond (lt (threshold_of asked) hold) (threshold_of asked) hold))
    least_threshold

-- ---- a ramp, a threshold and a hold as they were asked for, and the points of a record
module _ (ramp : Ramp) (asked hold : Float) where
  unfoldable pub kept_of : List Float → List Kept
  kept_of ts = kept_all (colour_of ramp) (near_within (threshold_of asked) (hold_of asked hold)) (max_of ramp) (min_of ramp) (sites_of ramp ts)

  -- its stops, as a list that is offered to the judge
  unfoldable pub list_within : List Float → Offer
  list_within ts = offer_of (positions_of (kept_of ts)) (colours_of (colour_of ramp) (positions_of (kept_of ts)))

  -- 7 beyond the room, or beyond what the judge takes
  unfoldable pub refusal_within : ℕ → List Float → ℕ
  refusal_within room ts = kept_refusals (colour_of ramp) (min room most_listed) 0 (kept_of ts)

  -- 1 for each point
  unfoldable pub evaluations_within : List Float → ℕ
  evaluations_within ts = length (sites_of ramp ts) + 2

  -- the list of the points ts, written
  abbrev pub written_within : List Float → Output → Output
  written_within ts out =
      let r = refusal_within (room out) ts in
      output_of (written_of r (sets out.positions 0 (list_within ts).positions)) (written_of r (sets out.channels 0 (list_within ts).channels))

  module _ (was : Held) where
    unfoldable pub within_answer : Output → Listed
    within_answer out =
        let ts = points_in ramp was in
        answer_by (thin_check ramp asked was) (refusal_within (room out) ts) (length (kept_of ts)) (evaluations_within ts)

    unfoldable pub within_output : Output → Output
    within_output out = on_fine (thin_check ramp asked was) (written_within (points_in ramp was) out) (λ n. out)

  -- a fresh sampling, and then that
  abbrev pub fresh_points : List Float
  fresh_points = points_in ramp (fresh ramp asked)

  unfoldable pub flatten_within_output : Held → Output → Output
  flatten_within_output was out = on_fine (held_check ramp was) (written_within fresh_points out) (λ n. out)

  unfoldable pub flatten_within_evaluations : ℕ
  flatten_within_evaluations = fresh_evaluations ramp asked + evaluations_within fresh_points
