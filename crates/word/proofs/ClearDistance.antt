-- The difference of two colours whose channels lie from 0 to 1, in units of 2 ^ -149: what the exact one is no more than, where it is within a hold; and what it is no more than, where the exact one is known. Assumes nothing.
use mathlib.Core.Path.{◌≡◌, refl}
use Prim.Native.Nat.{ℕ, ◌+◌, ◌*◌, ◌^◌, ◌≤◌}
use native.Mathlib.Nat.{le_trans as le_trans_ℕ}
use native.Mathlib.Omega.{arith}
use lib.Dec.{T, lit≤}
use lib.Ieee.{Float, binary32, of_bits, le}
use lib.Ieee.Bits.{of_bits-fits}
use lib.Ieee.Fits.{div-fits}
use Rattle.float.specs.Units.{count}
use Rattle.float.proofs.UnitSums.{Counted, le_units}
use Rattle.float.proofs.RoundOff.{gap}
use Rattle.float.proofs.OperationsOff.{counted_up}
use Rattle.blend.specs.declared.Rgba.{Rgba}
use Rattle.difference.specs.Difference.{clamped_of, distance_of}
use Rattle.difference.specs.Measure.{Plain}
use Rattle.difference.proofs.Legs.{Four}
use Rattle.difference.proofs.Errors.{Measured, measured_high, measured_low}
use Rattle.difference.proofs.Measuring.{ClearColour, half_from0, half-finite, measured}
use Rattle.sampling.specs.Constants.{most_threshold}
use Rattle.word.proofs.EndSums.{clamp_id}
use Rattle.word.proofs.TwoLines.{turn, ApartBy}
use Rattle.word.proofs.ThreePlaces.{close}

-- the four channels of a colour, in units
abbrev pub units_of : Rgba → Four
units_of c = record { r = count c.r; g = count c.g; b = count c.b; a = count c.a }

-- h is measured at most, so this is what the exact one is no more than, scaled by 2 ^ 28
abbrev pub bound : ℕ → ℕ → ℕ
bound h t = (2 ^ 28 + 83) * (2 * h + 2) + 2 ^ 28 * t

clamped_id : (x : Rgba) → ClearColour x → clamped_of x ≡ x
unfolding clamped_of
clamped_id x w = rw (clamp_id x.r w.red.low w.red.high, clamp_id x.g w.green.low w.green.high, clamp_id x.b w.blue.low w.blue.high, clamp_id x.a w.alpha.low w.alpha.high)

module _ (x y : Rgba) (wx : ClearColour x) (wy : ClearColour y) where
  in_steps : Measured (gap (count x.r) (count y.r)) (gap (count x.g) (count y.g)) (gap (count x.b) (count y.b)) (gap (count x.a) (count y.a)) (count (distance_of x y)) (2 ^ 149)
  in_steps = rw (clamped_id x wx, clamped_id y wy) (measured x y wx wy)

  pub plain_distance : Plain (distance_of x y)
  plain_distance = rw (clamped_id x wx, clamped_id y wy) (record { single = div-fits binary32 _ _; whole = half-finite x y wx wy; low = (half_from0 x y wx wy).low })

  plain_counted : (z : Float) → Plain z → Counted z (count z) 0
  plain_counted z w = counted_up z w.single w.whole w.low

  in_order : (z o : Float) (p q : ℕ) → Counted z p 0 → Counted o q 0 → T (le z o) → p ≤ q
  in_order z o p q h k l = bare p q (le_units z o p 0 q 0 h k l)
    where
      bare : (m n : ℕ) → m + 0 ≤ n + 0 → m ≤ n
      bare m n h = omega arith

  abbrev far : ℕ
  far = 2 ^ 76

  wide : 6 * 2 ^ 149 ≤ 2 ^ 76 * 2 ^ 76
  wide = lit≤ tt

  -- a difference within the hold
  pub no_more : (hold : Float) → Plain hold → T (le (distance_of x y) hold) → count (distance_of x y) ≤ count hold
  no_more hold w h = in_order (distance_of x y) hold _ _ (plain_counted _ plain_distance) (plain_counted hold w) h

  pub turned : (m : ℕ) → ApartBy m (units_of x) (units_of y) → ApartBy m (units_of y) (units_of x)
  turned m h = rw (turn (count y.r) (count x.r), turn (count y.g) (count x.g), turn (count y.b) (count x.b), turn (count y.a) (count x.a)) h

  pub near_apart : (h : ℕ) → count (distance_of x y) ≤ h → ApartBy (bound h far) (units_of y) (units_of x)
  near_apart h l = turned (bound h far) (measured_low _ _ _ _ (count (distance_of x y)) (2 ^ 149) far in_steps wide h l)

  pub apart_near : (h : ℕ) → 28 * h ≤ 2 ^ 149 → ApartBy (bound h far + 816 * 2 ^ 149) (units_of x) (units_of y) → count (distance_of x y) ≤ h + 2 ^ 130
  apart_near h l w =
      close (count (distance_of x y)) h (2 ^ 149) far (2 ^ 130) l (lit≤ tt) refl (lit≤ tt)
      (measured_high _ _ _ _ (count (distance_of x y)) (2 ^ 149) far in_steps wide (bound h far + 816 * 2 ^ 149) (lit≤ tt) w)

-- ---- a hold is at most 0.035
most_counted : Counted most_threshold (9395241 * 2 ^ 121) 0
unfolding of_bits
most_counted = record { whole = tt; single = of_bits-fits binary32 0x3d0f_5c29; up = refl; down = refl }

pub hold_small : (hold : Float) → Plain hold → T (le hold most_threshold) → 28 * count hold ≤ 2 ^ 149
hold_small hold w h =
    le_trans_ℕ (times (count hold) (9395241 * 2 ^ 121) (bare _ _ (le_units hold most_threshold _ _ _ _ (counted_up hold w.single w.whole w.low) most_counted h))) (lit≤ tt)
  where
    bare : (m n : ℕ) → m + 0 ≤ n + 0 → m ≤ n
    bare m n h = omega arith

    times : (m n : ℕ) → m ≤ n → 28 * m ≤ 28 * n
    times m n h = omega arith
