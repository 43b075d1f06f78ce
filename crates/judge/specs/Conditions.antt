-- What is so where the answer is yes, and only there (proofs/Theorems); and what it is for two lists to have the same stops. Document 02 (xi).
use Rattle.std.specs.Prelude.{ℕ, ◌-◌, ◌*◌, ◌≤◌, ◌<◌, ◌≡◌, T, length, Float}
use Rattle.std.specs.Float.Ieee.{le, eq}
use Rattle.std.specs.Float.Ieee.Scale.{finite}
use Rattle.stops.specs.Lent.{Ramp}
use Rattle.stops.specs.Stops.{pos_at, colour_at, stop_at, finite_rgba}
use Rattle.stops.specs.Place.{Rising}
use Rattle.stops.specs.declared.Checked.TheVariants.{Fine}
use Rattle.gradient.specs.Ramp.{min_of, max_of, colour_of}
use Rattle.difference.specs.Difference.{distance_of}
use Rattle.sampling.specs.Constants.{cells, threshold_of}
use Rattle.judge.specs.Lists.{Offer, most_listed, offered_ramp}
use Rattle.judge.specs.Verdicts.{ramp_check, point_count, fresh_point}

-- the clamped colours at t differ by no more than the threshold in force
abbrev pub Near : Ramp → Float → Offer → Float → Type 0
Near ramp asked offer t = T (le (distance_of (colour_of ramp t) (colour_of (offered_ramp offer) t)) (threshold_of asked))

pub record Stands (ramp : Ramp) (asked : Float) (offer : Offer) : Type 0 where
  pub fine : ramp_check ramp ≡ Fine
  pub least : 2 ≤ length offer.positions
  pub most : length offer.positions ≤ most_listed
  pub four : length offer.channels ≡ 4 * length offer.positions
  pub finite_at : (i : ℕ) → i < length offer.positions → T (finite (pos_at offer.positions i))
  pub colour_finite : (i : ℕ) → i < length offer.positions → T (finite_rgba (colour_at offer.channels i))
  pub rising : Rising offer.positions
  pub first : T (eq (pos_at offer.positions 0) (min_of ramp))
  pub last : T (eq (pos_at offer.positions (length offer.positions - 1)) (max_of ramp))
  pub near_rows : (i j : ℕ) → i < cells → j < point_count ramp asked i → Near ramp asked offer (fresh_point ramp asked i j)
  pub near_max : Near ramp asked offer (max_of ramp)

-- as many positions and channels, and the same stops
pub record SameStops (one other : Offer) : Type 0 where
  pub as_many : length one.positions ≡ length other.positions
  pub as_long : length one.channels ≡ length other.channels
  pub each : (i : ℕ) → i < length one.positions → stop_at one.positions one.channels i ≡ stop_at other.positions other.channels i
