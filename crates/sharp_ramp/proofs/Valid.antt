-- A sharp ramp that was built passes the check: its stops are 2 to 512, so few enough, and even in number, all finite, and never fall. Assumes nothing.
use mathlib.Core.Path.{◌≡◌, refl, ◌∙◌, ap}
use mathlib.Core.Bool.{Bool, true, ◌&&◌}
use mathlib.Core.List.{List, []}
use Prim.Native.Nat.{ℕ, ◌+◌, ◌*◌, ◌/◌, ◌%◌, ◌≤◌, ◌<◌}
use native.Mathlib.Omega.{arith}
use lib.ListN.{length, get_or}
use lib.Ieee.{Float, nan, inf}
use lib.Ieee.Scale.{finite}
use borrow.Author.Tests.{eq-eqb}
use Rattle.refusals.specs.Limits.{most_stops}
use Rattle.blend.specs.Finite.{all_finite}
use Rattle.blend.proofs.FiniteLists.{finite_each}
use Rattle.stops.specs.Lent.{Ramp, ramp_of}
use Rattle.stops.specs.Stops.{colour_at, finite_rgba}
use Rattle.stops.specs.declared.Kind.TheVariants.{Sharp}
use Rattle.stops.specs.declared.Checked.TheVariants.{Fine}
use Rattle.stops.proofs.Checking.{Shape}
use Rattle.stops.proofs.Valid.{Valid}
use Rattle.gradient.specs.Ramp.{check_of}
use Rattle.stops.proofs.Steady.{steady-finite, steady_rising}
use Rattle.sharp_ramp.specs.Sharp.{sharp_positions, band_channel, sharp_channels, bands, build_of}
use Rattle.sharp_ramp.specs.declared.Built.TheVariants.{Stops}
use Rattle.sharp_ramp.proofs.Filling.{listed_at}
use Rattle.sharp_ramp.proofs.Laws.{few, room, made, length_positions, length_channels}
use Rattle.gradient.proofs.Valid.{passes}

-- a channel of a stop is one of a colour
channel_finite : (colours : List Float) (n m : ℕ) → all_finite colours ≡ true → length colours ≡ 4 * n → m < 8 * n → finite (get_or (sharp_channels colours n) m nan) ≡ true
unfolding sharp_channels
channel_finite colours n m h e l = ap finite (listed_at (band_channel colours) (8 * n) m l) ∙ finite_each colours h (4 * (m / 8) + m % 4) (omega arith)

all_four : {p q r s : Bool} → p ≡ true → q ≡ true → r ≡ true → s ≡ true → (p && q && r && s) ≡ true
all_four p q r s = simp (p, q, r, s)

colour_of : (colours : List Float) (n i : ℕ) → all_finite colours ≡ true → length colours ≡ 4 * n → i < 2 * n → finite_rgba (colour_at (sharp_channels colours n) i) ≡ true
colour_of colours n i h e l =
    all_four (channel_finite colours n (4 * i) h e (omega arith)) (channel_finite colours n (4 * i + 1) h e (omega arith)) (channel_finite colours n (4 * i + 2) h e (omega arith)) (channel_finite colours n (4 * i + 3) h e (omega arith))

sized_as : (n p c : ℕ) → 1 ≤ n → n ≤ 256 → p ≡ 2 * n → c ≡ 8 * n → Shape Sharp p c 0
unfolding most_stops
sized_as n p c a b e d = record { least = omega arith; most = omega arith; four = omega arith; codeless = refl; paired = eq-eqb (p % 2) 0 (omega arith) }

module _ (colours : List Float) (min max s : Float) (p c m : ℕ) (built : build_of colours min max s p c ≡ Stops m) where
  abbrev n : ℕ
  n = bands colours

  abbrev positions : List Float
  positions = sharp_positions min max s n

  abbrev pub built_ramp : Ramp
  built_ramp = ramp_of Sharp positions (sharp_channels colours n) []

  pub built_valid : Valid built_ramp
  built_valid =
      let w = made colours min max s p c m built in
      let k = few n min max w.fits in
      let r = room (length colours) n p c w.room_for in
      let long = length_positions min max s n in
      let fin_at : (i : ℕ) → i < length positions → finite (get_or positions i nan) ≡ true = λ i l. steady-finite max (inf true) positions w.steadily i l in
      record {
        sized = sized_as n (length positions) (length (sharp_channels colours n)) k.least k.most long (length_channels colours n);
        finite_at = fin_at;
        colour_finite = λ i l. colour_of colours n i w.all_finite_lem r.whole (omega arith);
        rising = steady_rising max (inf true) positions w.steadily;
      }

  pub built_passes : check_of built_ramp ≡ Fine
  built_passes = passes built_ramp refl built_valid
