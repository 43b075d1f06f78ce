-- Two depths that the ramp has far apart are apart in a list that keeps its word. Said in units of 2 ^ -149, of which every f32 is a whole number (`count`). Definitions only.
use Rattle.std.specs.Prelude.{List, ℕ, suc, ◌+◌, ◌*◌, ◌^◌, ◌<◌, T, length, get_or, Float}
use Rattle.std.specs.Float.Ieee.{lt}
use Rattle.float.specs.Units.{count}
use Rattle.difference.specs.Difference.{distance_of}
use Rattle.difference.specs.Measure.{Beyond}
use Rattle.stops.specs.Lent.{Ramp}
use Rattle.stops.specs.Stops.{pos_at}
use Rattle.gradient.specs.Ramp.{colour_of}
use Rattle.judge.specs.Lists.{Offer, offered_ramp}
use Rattle.word.specs.Word.{InDomain, OwnDepth}

-- how far apart a ramp's clamped colours at s and t are, in units
abbrev pub span_of : Ramp → Float → Float → ℕ
span_of ramp s t = count (distance_of (colour_of ramp s) (colour_of ramp t))

-- more than the step and twice the hold, and than what rounding can add to that
abbrev pub FarApart : Ramp → Float → Float → Float → Float → Type 0
FarApart ramp step hold s t = Beyond (span_of ramp s t) (count step + 2 * count hold)

-- plainer, and a little more is asked: more than the step, twice the hold and 2 ^ -20
abbrev pub FarApartBy20 : Ramp → Float → Float → Float → Float → Type 0
FarApartBy20 ramp step hold s t = count step + 2 * count hold + 2 ^ 129 < span_of ramp s t

-- any two of the ramp's own positions, or f32 just beside them, that are far apart in the ramp differ by more than the step in the list
pub record NeverMerges (ramp : Ramp) (offer : Offer) (hold step : Float) : Type 0 where
  pub far : (s t : Float) → OwnDepth ramp s → OwnDepth ramp t → InDomain ramp s → InDomain ramp t → FarApart ramp step hold s t → T (lt step (distance_of (colour_of (offered_ramp offer) s) (colour_of (offered_ramp offer) t)))
  pub by20 : (s t : Float) → OwnDepth ramp s → OwnDepth ramp t → InDomain ramp s → InDomain ramp t → FarApartBy20 ramp step hold s t → T (lt step (distance_of (colour_of (offered_ramp offer) s) (colour_of (offered_ramp offer) t)))

-- of what `apart` told of depths: where a depth and the one before are far apart in the ramp, its byte has no 4
pub record Unmerged (ramp : Ramp) (hold step : Float) (ds : List Float) (bytes : List ℕ) : Type 0 where
  pub far : (i : ℕ) → suc i < length ds → FarApart ramp step hold (pos_at ds i) (pos_at ds (suc i)) → get_or bytes (suc i) 0 < 4
  pub by20 : (i : ℕ) → suc i < length ds → FarApartBy20 ramp step hold (pos_at ds i) (pos_at ds (suc i)) → get_or bytes (suc i) 0 < 4
