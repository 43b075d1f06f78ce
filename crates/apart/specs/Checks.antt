-- When the call says no: 1 to 4 of the ramp, then 22 of the list, 23 of the depths, 24 of the step, and 7 of the bytes.
use Rattle.std.specs.Prelude.{ℕ, ◌-◌, Bool, true, false, not, cond, ◌&&◌, List, ltb, length, Float}
use Rattle.std.specs.Float.Ieee.{lt}
use Rattle.std.specs.Float.Ieee.Scale.{finite}
use Rattle.float.specs.F32.{f0}
use Rattle.refusals.specs.Refusals.{no_room, bad_list, bad_depths, bad_step}
use Rattle.stops.specs.Lent.{Ramp}
use Rattle.stops.specs.Stops.{pos_at}
use Rattle.stops.specs.declared.Checked.{Checked}
use Rattle.stops.specs.declared.Checked.TheVariants as checked
use Rattle.gradient.specs.Ramp.{min_of, max_of}
use Rattle.sampling.specs.Sampling.{and_then}
use Rattle.judge.specs.Lists.{Offer, first_failing}
use Rattle.judge.specs.Verdicts.{ramp_check, shape_verdict}
use Rattle.judge.specs.declared.Verdict.{Verdict}
use Rattle.judge.specs.declared.Verdict.TheVariants.{Yes, WrongLength, BadStop, WrongFirst, WrongLast, TooFar, Refused}

-- ---- the list
abbrev pub is_yes : Verdict → Bool
is_yes Yes = true
is_yes WrongLength = false
is_yes (BadStop stop) = false
is_yes WrongFirst = false
is_yes WrongLast = false
is_yes (TooFar row index t) = false
is_yes (Refused n) = false

-- nothing is wrong with its shape
abbrev pub good_list : Float → Float → Offer → Bool
good_list lo hi offer = is_yes (shape_verdict lo hi offer Yes)

-- ---- the depths
-- depth i. The first has none before it, and is not below itself
unfoldable pub good_depth : Float → Float → List Float → ℕ → Bool
good_depth lo hi ds i =
    finite (pos_at ds i) && not (lt (pos_at ds i) lo) && not (lt hi (pos_at ds i)) && not (lt (pos_at ds i) (pos_at ds (i - 1)))

-- the first that is not good, and the number of depths where all are
unfoldable pub first_bad_depth : Float → Float → List Float → ℕ
first_bad_depth lo hi ds = first_failing (good_depth lo hi ds) (length ds) 0

-- one or more, and all good
unfoldable pub good_depths : Float → Float → List Float → Bool
good_depths lo hi ds = ltb 0 (length ds) && not (ltb (first_bad_depth lo hi ds) (length ds))

-- ---- the step; -0 is not below 0
unfoldable pub good_step : Float → Bool
good_step step = finite step && not (lt step f0)

-- ---- in order
-- 23, then 24
unfoldable pub asked_check : Float → Float → List Float → Float → Checked
asked_check lo hi ds step =
    cond (good_depths lo hi ds) (cond (good_step step) checked.Fine (checked.Refused bad_step)) (checked.Refused bad_depths)

-- before them 22
unfoldable pub given_check : Float → Float → Offer → List Float → Float → Checked
given_check lo hi offer ds step = cond (good_list lo hi offer) (asked_check lo hi ds step) (checked.Refused bad_list)

-- before all of them 1 to 4
unfoldable pub lent_check : Ramp → Offer → List Float → Float → Checked
lent_check ramp offer ds step = and_then (ramp_check ramp) (given_check (min_of ramp) (max_of ramp) offer ds step)

-- and last 7: fewer bytes than depths
unfoldable pub apart_check : Ramp → Offer → List Float → Float → ℕ → Checked
apart_check ramp offer ds step room =
    and_then (lent_check ramp offer ds step) (cond (ltb room (length ds)) (checked.Refused no_room) checked.Fine)
