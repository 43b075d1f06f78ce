-- The classes, each in the next: ordinary ramps, moderate ones, among them sharp ramps that were built, and ramps whose colours are finite on their domain. Assumes nothing.
use mathlib.Core.Path.{◌≡◌, refl, sym, subst}
use mathlib.Core.Bool.{true, false, ◌&&◌}
use mathlib.Core.List.{List}
use Prim.Native.Nat.{ℕ, ◌+◌, ◌-◌, ◌*◌, ◌/◌, ◌%◌, ◌<◌}
use native.Mathlib.Omega.{arith}
use lib.Dec.{T, eqb, ltb}
use lib.ListN.{length, get_or}
use lib.Ieee.{Float, nan, binary32, neg, of_bits, fits, le, eq}
use lib.Ieee.Bits.{is_true}
use lib.Ieee.Fits.{and_i, add-fits, sub-fits, cond-fits}
use lib.Ieee.Scale.{finite}
use Rattle.float.specs.F32.{◌⊖◌, f0, f1}
use Rattle.float.proofs.Order as order
use Rattle.blend.specs.Points.{linspace_at}
use Rattle.stops.specs.Lent.{Ramp}
use Rattle.stops.specs.Stops.{pos_at}
use Rattle.stops.specs.declared.Kind.TheVariants.{Linear, Sharp}
use Rattle.stops.proofs.Valid.{Valid}
use Rattle.gradient.specs.Ramp.{is_gimp, min_in, max_in, min_of, max_of}
use Rattle.gradient.proofs.Valid.{valid}
use Rattle.sampling.specs.Constants.{farthest}
use Rattle.refresh.specs.reach.KeptCells.{is_domain}
use Rattle.sharp_ramp.specs.Sharp.{band_at, inset_of, sharp_positions, band_channel, sharp_channels, bands, build_of}
use Rattle.sharp_ramp.specs.declared.Built.TheVariants.{Stops}
use Rattle.sharp_ramp.proofs.Filling.{listed_at}
use Rattle.sharp_ramp.proofs.Laws.{room as whole_colours, made, length_positions, length_channels}
use Rattle.sharp_ramp.proofs.Valid.{built_ramp, built_passes}
use Rattle.ordinary.specs.Ordinary.{AllFrom, Ordinary, Moderate, largest, FiniteOnDomain}
use Rattle.ordinary.proofs.Rising.{span-finite}
use Rattle.ordinary.proofs.Everywhere.{no_segments, finite_everywhere}

-- ---- a moderate ramp has finite colours everywhere
module _ (ramp : Ramp) (ok : Moderate ramp) where
  of_stops : is_gimp ramp.kind ≡ false
  of_stops = no_segments ramp.kind ok.only_pairs

  sound : Valid ramp
  sound = valid ramp of_stops ok.passes

  pub span : T (finite (pos_at ramp.positions (length ramp.positions - 1) ⊖ pos_at ramp.positions 0))
  unfolding min_in max_in
  span = rw of_stops at (span-finite (min_of ramp) (max_of ramp) ok.near)

  first_single : T (fits binary32 (min_of ramp))
  unfolding min_in
  first_single = rw of_stops (ok.places 0 (omega (arith, sound.sized.least)))

  last_single : T (fits binary32 (max_of ramp))
  unfolding max_in
  last_single = rw of_stops (ok.places (length ramp.positions - 1) (omega (arith, sound.sized.least)))

  pub moderate_finite : FiniteOnDomain ramp
  moderate_finite =
      record {
        passes = ok.passes;
        near = ok.near;
        finite_colours = λ t f l m. finite_everywhere ramp sound ok.places span ok.only_pairs ok.within t;
        first_single = first_single;
        last_single = last_single;
      }

-- ---- an ordinary ramp is moderate
unit_domain : (lo hi : Float) → T (eq lo f0) → T (eq hi f1) → is_domain lo hi ≡ true
unfolding is_domain
unit_domain lo hi z o =
    let a = le (neg farthest) lo in
    let b = le lo hi in
    let c = le hi farthest in
    let low : T a = order.le_trans (neg farthest) f0 lo units.0 (order.ge_from_eq lo f0 z) in
    let rise : T b = order.le_trans lo f0 hi (order.le_from_eq lo f0 z) (order.le_trans f0 f1 hi units.1 (order.ge_from_eq hi f1 o)) in
    let high : T c = order.le_trans hi f1 farthest (order.le_from_eq hi f1 o) units.2 in
    is_true (a && (b && c)) (and_i a (b && c) low (and_i b c rise high))
  where
    units : T (le (neg farthest) f0) × T (le f0 f1) × T (le f1 farthest)
    units = unfold of_bits neg le in (tt, tt, tt)

pub ordinary_moderate : (ramp : Ramp) → Ordinary ramp → Moderate ramp
ordinary_moderate ramp o =
    record {
      only_pairs = rw o.linear;
      passes = o.passes;
      near = unit_domain (min_of ramp) (max_of ramp) o.from_zero o.to_one;
      within = λ i l. rw o.linear (unit_in (get_or ramp.channels i nan) (o.within i l));
      places = o.places;
    }
  where
    units : T (le (neg (largest Linear)) f0) × T (le f1 (largest Linear))
    units = unfold of_bits neg le in (tt, tt)

    unit_in : (x : Float) → T (le f0 x) × T (le x f1) → T (le (neg (largest Linear)) x) × T (le x (largest Linear))
    unit_in x h = (order.le_trans (neg (largest Linear)) f0 x units.0 h.0, order.le_trans x f1 (largest Linear) h.1 units.1)

-- ---- a sharp ramp that was built is moderate where its colours are no larger than a sixth of the largest f32
module _ (colours : List Float) (min max s : Float) (p c m : ℕ) (built : build_of colours min max s p c ≡ Stops m) (single : T (fits binary32 min)) where
  abbrev ramp : Ramp
  ramp = built_ramp colours min max s p c m built

  abbrev n : ℕ
  n = bands colours

  point_single : (k i : ℕ) → T (fits binary32 (linspace_at min max k i))
  unfolding linspace_at
  point_single k i = cond-fits binary32 (eqb k 1) min _ single (add-fits binary32 min _)

  band_single : (j : ℕ) → T (fits binary32 (band_at min max (inset_of min max s n) n j))
  unfolding band_at
  band_single j =
      cond-fits binary32 (eqb (j % 2) 0) _ _
      (cond-fits binary32 (ltb 0 j) _ _ (add-fits binary32 (linspace_at min max (n + 1) (j / 2)) (inset_of min max s n)) (point_single (n + 1) (j / 2)))
      (cond-fits binary32 (ltb (j + 1) (2 * n)) _ _ (sub-fits binary32 (linspace_at min max (n + 1) (j / 2 + 1)) (inset_of min max s n)) (point_single (n + 1) (j / 2 + 1)))

  places : (i : ℕ) → i < length (sharp_positions min max s n) → T (fits binary32 (get_or (sharp_positions min max s n) i nan))
  unfolding sharp_positions
  places i l =
      subst (λ (x : Float). T (fits binary32 x)) (sym (listed_at (band_at min max (inset_of min max s n) n) (2 * n) i (omega (arith, length_positions min max s n)))) (band_single i)

  pub built_moderate : AllFrom (neg (largest Sharp)) (largest Sharp) colours → is_domain (min_of ramp) (max_of ramp) ≡ true → Moderate ramp
  unfolding sharp_channels
  built_moderate within near =
      let w = made colours min max s p c m built in
      let r = whole_colours (length colours) n p c w.room_for in
      record {
        only_pairs = refl;
        passes = built_passes colours min max s p c m built;
        near = near;
        within = λ i l. rw (listed_at (band_channel colours) (8 * n) i (omega (arith, length_channels colours n))) (within (4 * (i / 8) + i % 4) (omega (arith, length_channels colours n, r.whole)));
        places = places;
      }
