-- Of a linear ramp with channels from 0 to 1, how far off a list may be at every f32 of the domain. Said in units of 2 ^ -149, of which every f32 is a whole number (`count`). Definitions only.
use Rattle.std.specs.Prelude.{◌≡◌, ◌+◌, ◌^◌, ◌≤◌, T, Float}
use Rattle.std.specs.Float.{binary32}
use Rattle.std.specs.Float.Ieee.{fits}
use Rattle.float.specs.F32.{f0, f1}
use Rattle.float.specs.Units.{count}
use Rattle.difference.specs.Difference.{distance_of}
use Rattle.difference.specs.Measure.{Plain}
use Rattle.stops.specs.Lent.{Ramp}
use Rattle.stops.specs.declared.Kind.TheVariants.{Linear}
use Rattle.gradient.specs.Ramp.{colour_of}
use Rattle.judge.specs.Lists.{Offer, offered_ramp}
use Rattle.ordinary.specs.Ordinary.{AllFrom, Singles}
use Rattle.word.specs.Word.{InDomain}

-- a linear ramp with channels from 0 to 1, on any domain. That what is lent is f32, as each number that is lent is, is said here
pub record UnitRamp (ramp : Ramp) : Type 0 where
  pub linear : ramp.kind ≡ Linear
  pub within : AllFrom f0 f1 ramp.channels
  pub places : Singles ramp.positions
  pub channels : Singles ramp.channels

-- the difference of the clamped colours of ramp and list at t
abbrev pub miss_of : Ramp → Offer → Float → Float
miss_of ramp offer t = distance_of (colour_of ramp t) (colour_of (offered_ramp offer) t)

-- it is a finite number that is not below 0, and no more than the hold and 2 ^ -19, which is 2 ^ 130 units
pub record NearlyHeld (ramp : Ramp) (offer : Offer) (hold t : Float) : Type 0 where
  pub plain : Plain (miss_of ramp offer t)
  pub most : count (miss_of ramp offer t) ≤ count hold + 2 ^ 130

abbrev pub HeldEverywhere : Ramp → Offer → Float → Type 0
HeldEverywhere ramp offer hold = (t : Float) → T (fits binary32 t) → InDomain ramp t → NearlyHeld ramp offer hold t
