-- What the call promises.
use Rattle.std.specs.Prelude.{◌≡◌, List, ℕ, length, Float}
use Rattle.stops.specs.Answers.{number_of_checked}
use Rattle.stops.specs.Lent.{Ramp}
use Rattle.judge.specs.Lists.{Offer}
use Rattle.apart.specs.Checks.{apart_check}
use Rattle.apart.specs.Answers.{number_of_apart, apart_of, bytes_of}
use Rattle.apart.specs.declared.told.Apart.{Apart}

-- `apart`: the answer, document 01's number of it, and the bytes, which were `was` and are `is`
pub record TellsApart (ramp : Ramp) (asked step : Float) (offer : Offer) (ds : List Float) (was is : List ℕ) (r : Apart) : Type 0 where
  pub answer : r ≡ apart_of ramp asked step offer ds was
  pub number : number_of_apart r ≡ number_of_checked (apart_check ramp offer ds step (length was))
  pub bytes : is ≡ bytes_of ramp asked step offer ds was
