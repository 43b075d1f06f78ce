-- What the call tells, and what it leaves in the lent bytes. Document 01's number for each case of the answer.
use Rattle.std.specs.Prelude.{ℕ, cond, List, ◌++◌, ltb, length, drop, replicate, Float}
use Rattle.stops.specs.Answers.{on_fine}
use Rattle.stops.specs.Lent.{Ramp}
use Rattle.gradient.specs.Ramp.{colour_of}
use Rattle.sampling.specs.Constants.{threshold_of}
use Rattle.sampling.specs.Midpoints.{Gradient}
use Rattle.judge.specs.Lists.{Offer, offered_ramp}
use Rattle.apart.specs.Checks.{lent_check, apart_check}
use Rattle.apart.specs.Faults.{how_many, is_moved, is_close, is_merged, faults_of, first_merged}
use Rattle.apart.specs.declared.told.Apart.{Apart}
use Rattle.apart.specs.declared.told.Apart.TheVariants.{Told, Refused}

-- the number of a refusal, 0 for none
abbrev pub number_of_apart : Apart → ℕ
number_of_apart (Told moved close merged first) = 0
number_of_apart (Refused n) = n

module _ (g h : Gradient) (threshold step : Float) (ds : List Float) where
  -- how many of each, and the first merged one
  unfoldable pub told_of : Apart
  told_of =
      Told (how_many (is_moved g h threshold step ds) (length ds))
      (how_many (is_close g h threshold step ds) (length ds))
      (how_many (is_merged g h threshold step ds) (length ds))
      (first_merged g h threshold step ds (length ds))

  -- a byte for each depth; what lies past the last depth stays
  abbrev pub faults_over : List ℕ → List ℕ
  faults_over was = faults_of g h threshold step ds (length ds) ++ drop (length ds) was

-- ---- the call: a ramp, a threshold as it was asked for, a step, the list that is offered, depths, and the bytes that were lent
module _ (ramp : Ramp) (asked step : Float) (offer : Offer) (ds : List Float) (was : List ℕ) where
  unfoldable pub apart_of : Apart
  apart_of =
      on_fine (apart_check ramp offer ds step (length was))
      (told_of (colour_of ramp) (colour_of (offered_ramp offer)) (threshold_of asked) step ds) Refused

  -- 1 to 4 and 22 to 24 change nothing, 7 sets every byte to zero
  unfoldable pub bytes_of : List ℕ
  bytes_of =
      on_fine (lent_check ramp offer ds step)
      (cond (ltb (length was) (length ds)) (replicate (length was) 0)
      (faults_over (colour_of ramp) (colour_of (offered_ramp offer)) (threshold_of asked) step ds was))
      (λ n. was)
