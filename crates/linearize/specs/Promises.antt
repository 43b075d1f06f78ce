-- What the calls promise, part by part.
use Rattle.std.specs.Prelude.{◌≡◌, List, ℕ, length, Float}
use Rattle.stops.specs.declared.Checked.{Checked}
use Rattle.stops.specs.Lent.{Ramp, Change}
use Rattle.gradient.specs.Ramp.{colour_of}
use Rattle.sampling.specs.Lent.{Held}
use Rattle.sampling.specs.Sampling.{far_of, held_check, fresh, sample_held}
use Rattle.records.specs.Fitness.{thin_check}
use Rattle.linearize.specs.Lent.{Output}
use Rattle.thinning.specs.Kept.{kept_of, refusal_of, list_evaluations}
use Rattle.linearize.specs.Desk.{number_of_listed, stops_of_listed, evaluations_of_listed, answer_by, number_by, value_by, points_in, room, thin_output, flatten_evaluations, flatten_output}
use Rattle.linearize.specs.declared.Listed.{Listed}

-- a list's answer, and document 01's number and values of it
pub record Tells (check : Checked) (refusal kept spent : ℕ) (r : Listed) : Type 0 where
  pub answer : r ≡ answer_by check refusal kept spent
  pub number : number_of_listed r ≡ number_by check refusal
  pub stops : stops_of_listed r ≡ value_by check refusal kept
  pub evaluations : evaluations_of_listed r ≡ value_by check refusal spent

abbrev pub TellsOf : Ramp → Float → Checked → Output → List Float → ℕ → Listed → Type 0
TellsOf ramp asked check out ts spent r =
    Tells check (refusal_of (colour_of ramp) (far_of asked) (room out) ts) (length (kept_of (colour_of ramp) (far_of asked) ts)) spent r

-- `thin`: the answer and both outputs
pub record Thins (ramp : Ramp) (asked : Float) (was : Held) (out : Change Output) (r : Listed) : Type 0 where
  pub told : TellsOf ramp asked (thin_check ramp asked was) out.entry (points_in ramp was) (list_evaluations (colour_of ramp) (far_of asked) (points_in ramp was)) r
  pub output : out.exit ≡ thin_output ramp asked was out.entry

-- `flatten`: the answer, the record and both outputs
pub record Flattens (ramp : Ramp) (asked : Float) (held : Change Held) (out : Change Output) (r : Listed) : Type 0 where
  pub told : TellsOf ramp asked (held_check ramp held.entry) out.entry (points_in ramp (fresh ramp asked)) (flatten_evaluations ramp asked) r
  pub left : held.exit ≡ sample_held ramp asked held.entry
  pub output : out.exit ≡ flatten_output ramp asked held.entry out.entry
