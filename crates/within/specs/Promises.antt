-- What the calls promise, part by part.
use Rattle.std.specs.Prelude.{◌≡◌, List, ℕ, length, Float}
use Rattle.stops.specs.declared.Checked.{Checked}
use Rattle.stops.specs.Lent.{Ramp, Change}
use Rattle.sampling.specs.Lent.{Held}
use Rattle.sampling.specs.Sampling.{held_check, sample_held}
use Rattle.records.specs.Fitness.{thin_check}
use Rattle.linearize.specs.Lent.{Output}
use Rattle.linearize.specs.Desk.{points_in, room}
use Rattle.linearize.specs.Promises.{Tells}
use Rattle.linearize.specs.declared.Listed.{Listed}
use Rattle.within.specs.Lists.{kept_of, refusal_within, evaluations_within, within_output, fresh_points, flatten_within_evaluations, flatten_within_output}

-- a list's answer, and its number and values, of the check before it and the points
abbrev pub TellsWithin : Ramp → Float → Float → Checked → Output → List Float → ℕ → Listed → Type 0
TellsWithin ramp asked hold check out ts spent r = Tells check (refusal_within ramp asked hold (room out) ts) (length (kept_of ramp asked hold ts)) spent r

-- `thin_within`: the answer and both outputs
pub record ThinsWithin (ramp : Ramp) (asked hold : Float) (was : Held) (out : Change Output) (r : Listed) : Type 0 where
  pub told : TellsWithin ramp asked hold (thin_check ramp asked was) out.entry (points_in ramp was) (evaluations_within ramp asked hold (points_in ramp was)) r
  pub output : out.exit ≡ within_output ramp asked hold was out.entry

-- `flatten_within`: the answer, the record and both outputs
pub record FlattensWithin (ramp : Ramp) (asked hold : Float) (held : Change Held) (out : Change Output) (r : Listed) : Type 0 where
  pub told : TellsWithin ramp asked hold (held_check ramp held.entry) out.entry (fresh_points ramp asked hold) (flatten_within_evaluations ramp asked hold) r
  pub left : held.exit ≡ sample_held ramp asked held.entry
  pub output : out.exit ≡ flatten_within_output ramp asked hold held.entry out.entry
