-- What it is for two depths to be merged (proofs/Theorems).
use Rattle.std.specs.Prelude.{ℕ, ◌-◌, ◌≤◌, List, T, Float}
use Rattle.std.specs.Float.Ieee.{lt}
use Rattle.stops.specs.Lent.{Ramp}
use Rattle.stops.specs.Stops.{pos_at}
use Rattle.gradient.specs.Ramp.{colour_of}
use Rattle.difference.specs.Difference.{distance_of}
use Rattle.judge.specs.Lists.{Offer, offered_ramp}

-- how far apart a ramp's clamped colours at depth i and at the one before are
abbrev pub between : Ramp → List Float → ℕ → Float
between ramp ds i = distance_of (colour_of ramp (pos_at ds (i - 1))) (colour_of ramp (pos_at ds i))

-- depth i and the one before: the ramp's two colours differ by more than the step, and the list's do not
pub record Merged (ramp : Ramp) (step : Float) (offer : Offer) (ds : List Float) (i : ℕ) : Type 0 where
  pub later : 1 ≤ i
  pub ramp_tells : T (lt step (between ramp ds i))
  pub list_not : T (lt step (between (offered_ramp offer) ds i)) → ⊥
