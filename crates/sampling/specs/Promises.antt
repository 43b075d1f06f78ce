-- What the calls promise, part by part.
use Rattle.std.specs.Prelude.{◌≡◌, Bool, List, Float}
use Rattle.stops.specs.Answers.{number_of_checked}
use Rattle.stops.specs.Lent.{Ramp, Change}
use Rattle.sampling.specs.Lent.{Held}
use Rattle.sampling.specs.Sampling.{number_of_sampled, evaluations_of_sampled, held_check, sample_answer, sample_held, sample_evaluations}
use Rattle.sampling.specs.Anew.{resample_answer, resample_held, resample_evaluations}
use Rattle.sampling.specs.declared.Sampled.{Sampled}

-- `sample`: the answer, document 01's number and values of it, and the record
pub record Samples (ramp : Ramp) (asked : Float) (held : Change Held) (r : Sampled) : Type 0 where
  pub answer : r ≡ sample_answer ramp asked held.entry
  pub number : number_of_sampled r ≡ number_of_checked (held_check ramp held.entry)
  pub evaluations : evaluations_of_sampled r ≡ sample_evaluations ramp asked held.entry
  pub left : held.exit ≡ sample_held ramp asked held.entry

-- `resample`: the same, with some cells kept
pub record Resamples (ramp : Ramp) (asked : Float) (ks : List Bool) (held : Change Held) (r : Sampled) : Type 0 where
  pub answer : r ≡ resample_answer ramp asked ks held.entry
  pub number : number_of_sampled r ≡ number_of_checked (held_check ramp held.entry)
  pub evaluations : evaluations_of_sampled r ≡ resample_evaluations ramp asked ks held.entry
  pub left : held.exit ≡ resample_held ramp asked ks held.entry
