-- What the call promises.
use Rattle.std.specs.Prelude.{◌≡◌, Float}
use Rattle.stops.specs.Answers.{number_of_checked}
use Rattle.stops.specs.Lent.{Ramp}
use Rattle.judge.specs.Lists.{Offer}
use Rattle.judge.specs.Verdicts.{number_of_verdict, ramp_check, verdict_of}
use Rattle.judge.specs.declared.Verdict.{Verdict}

-- `judge`: the answer, and document 01's number of it, which is the ramp's alone
pub record Judges (ramp : Ramp) (asked : Float) (offer : Offer) (r : Verdict) : Type 0 where
  pub answer : r ≡ verdict_of ramp asked offer
  pub number : number_of_verdict r ≡ number_of_checked (ramp_check ramp)
