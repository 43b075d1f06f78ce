-- The difference of two clamped colours is a distance but for its rounding: the way over other colours is no shorter (`over_one`, `over_two`); and it is 1 at most (`one_at_most`).
-- So colours that are far apart stay apart when each is moved a little (`stays_apart`). Assumes nothing.
use mathlib.Core.Path.{◌≡◌, refl}
use mathlib.Core.Bool.{Bool, true, false}
use Prim.Native.Nat.{ℕ, ◌+◌, ◌*◌, ◌^◌, ◌≤◌, ◌<◌}
use native.Mathlib.Nat.{le_refl}
use native.Mathlib.Omega.{arith}
use lib.Dec.{T, lit≤}
use lib.Ieee.{Float, binary32, of_bits, fits, le, lt}
use lib.Ieee.Bits.{of_bits-fits}
use lib.Ieee.Fits.{div-fits, cond-fits}
use Rattle.float.specs.F32.{f0, f1}
use Rattle.float.specs.Number.{clamp_of}
use Rattle.float.specs.Units.{count}
use Rattle.float.proofs.Order.{no_nan_l, no_nan_r, le_from_not_lt, as_T}
use Rattle.float.proofs.Clamped.{clamp_low, clamp_high}
use Rattle.float.proofs.UnitSums.{Counted, le_units}
use Rattle.float.proofs.RoundOff.{gap}
use Rattle.float.proofs.OperationsOff.{counted_up}
use Rattle.blend.specs.declared.Rgba.{Rgba}
use Rattle.blend.proofs.Clear.{Clear}
use Rattle.difference.specs.Difference.{clamped_of, distance_of}
use Rattle.difference.specs.Measure.{SingleColour, Plain, AtMost, Beyond}
use Rattle.difference.proofs.Measuring.{ClearColour, half_from0, half-finite, measured}
use Rattle.difference.proofs.Legs.{Four, Leg, two_legs, three_legs}
use Rattle.difference.proofs.Numbers.{Number, Numbers, numbers}

-- ---- clamped colours in units
clear : (x : Float) → T (fits binary32 x) → Number x → Clear (clamp_of x)
unfolding clamp_of
clear x t n = record { single = cond-fits binary32 (lt x f0) f0 _ (of_bits-fits binary32 _) (cond-fits binary32 (lt f1 x) f1 x (of_bits-fits binary32 _) t); low = clamp_low x n; high = clamp_high x n }

clear_colour : (c : Rgba) → SingleColour c → Numbers c → ClearColour (clamped_of c)
unfolding clamped_of
clear_colour c s n =
    record { red = clear c.r s.red n.red; green = clear c.g s.green n.green; blue = clear c.b s.blue n.blue; alpha = clear c.a s.alpha n.alpha }

in_units : Rgba → Four
in_units c = record { r = count c.r; g = count c.g; b = count c.b; a = count c.a }

module _ (x y : Rgba) (sx : SingleColour x) (sy : SingleColour y) (nx : Numbers x) (ny : Numbers y) where
  leg : Leg (in_units (clamped_of x)) (in_units (clamped_of y)) (count (distance_of x y)) (2 ^ 149)
  unfolding in_units
  leg = measured (clamped_of x) (clamped_of y) (clear_colour x sx nx) (clear_colour y sy ny)

  distance_counted : Counted (distance_of x y) (count (distance_of x y)) 0
  distance_counted =
      counted_up (distance_of x y) (div-fits binary32 _ _) (half-finite (clamped_of x) (clamped_of y) (clear_colour x sx nx) (clear_colour y sy ny))
      (half_from0 (clamped_of x) (clamped_of y) (clear_colour x sx nx) (clear_colour y sy ny)).low

  distance_number : Number (distance_of x y)
  distance_number = no_nan_l (distance_of x y) f1 (half_from0 (clamped_of x) (clamped_of y) (clear_colour x sx nx) (clear_colour y sy ny)).high

  -- at most 1, which is 2 ^ 149 units
  one_counted : Counted f1 (2 ^ 149) 0
  unfolding of_bits
  one_counted = record { whole = tt; single = of_bits-fits binary32 0x3f80_0000; up = refl; down = refl }

  pub one_at_most : count (distance_of x y) ≤ 2 ^ 149
  one_at_most = bare (count (distance_of x y)) (2 ^ 149) (le_units (distance_of x y) f1 _ _ _ _ distance_counted one_counted (half_from0 (clamped_of x) (clamped_of y) (clear_colour x sx nx) (clear_colour y sy ny)).high)
    where
      bare : (a b : ℕ) → a + 0 ≤ b + 0 → a ≤ b
      bare a b h = omega arith

-- ---- the way over one colour, and over two
wide : 6 * 2 ^ 149 ≤ 2 ^ 76 * 2 ^ 76
wide = lit≤ tt

gap_sym : (a b : ℕ) → gap a b ≡ gap b a
gap_sym a b = omega arith

leg_back : (x y : Four) (e u : ℕ) → Leg x y e u → Leg y x e u
leg_back x y e u w = rw (gap_sym y.r x.r, gap_sym y.g x.g, gap_sym y.b x.b, gap_sym y.a x.a) w

module _ (a b c : Rgba) (sa : SingleColour a) (sb : SingleColour b) (sc : SingleColour c) (first : Number (distance_of a b)) (second : Number (distance_of b c)) where
  pub over_one : AtMost (count (distance_of a c)) (count (distance_of a b) + count (distance_of b c))
  over_one =
      let na = numbers a b first in
      let nc = numbers b c second in
      two_legs (2 ^ 149) (2 ^ 76) wide (lit≤ tt) _ _ _ _ _ _ _ _ (leg a b sa sb na.0 na.1) (leg b c sb sc nc.0 nc.1) (leg a c sa sc na.0 nc.1) (le_refl _) (le_refl _)

-- each of the two ends a step to the side: the differences to the sides are taken from the ends
module _ (a b c d : Rgba) (sa : SingleColour a) (sb : SingleColour b) (sc : SingleColour c) (sd : SingleColour d) (first : Number (distance_of a b)) (third : Number (distance_of d c)) where
  na : Numbers a × Numbers b
  na = numbers a b first

  nd : Numbers d × Numbers c
  nd = numbers d c third

  pub over_two : AtMost (count (distance_of a d)) (count (distance_of a b) + count (distance_of b c) + count (distance_of d c))
  over_two =
      three_legs (2 ^ 149) (2 ^ 76) wide (lit≤ tt) _ _ _ _ _ _ _ _ _ _ _ (leg a b sa sb na.0 na.1) (leg b c sb sc na.1 nd.1)
      (leg_back _ _ _ _ (leg d c sd sc nd.0 nd.1)) (leg a d sa sd na.0 nd.0) (le_refl _) (le_refl _) (le_refl _)

  -- ---- so what is far apart stays apart
  module _ (hold step : Float) (ph : Plain hold) (ps : Plain step) (near_a : T (le (distance_of a b) hold)) (near_d : T (le (distance_of d c) hold)) where
    plain_counted : (x : Float) → Plain x → Counted x (count x) 0
    plain_counted x w = counted_up x w.single w.whole w.low

    no_more : (x y : Rgba) (off : Float) → Plain off → SingleColour x → SingleColour y → Numbers x → Numbers y → T (le (distance_of x y) off) → count (distance_of x y) ≤ count off
    no_more x y off p sx sy nx ny h = bare (count (distance_of x y)) (count off) (le_units (distance_of x y) off _ _ _ _ (distance_counted x y sx sy nx ny) (plain_counted off p) h)
      where
        bare : (m n : ℕ) → m + 0 ≤ n + 0 → m ≤ n
        bare m n k = omega arith

    pub stays_apart : Beyond (count (distance_of a d)) (count step + 2 * count hold) → T (lt step (distance_of b c))
    stays_apart far = go (lt step (distance_of b c)) refl
      where
        sum : (e t h s i j k : ℕ) → i ≤ h → j ≤ s → k ≤ h → (2 ^ 28 + 168) * (s + 2 * h) + 3 * 2 ^ 28 * t < 2 ^ 28 * e → 2 ^ 28 * e ≤ (2 ^ 28 + 168) * (i + j + k) + 3 * 2 ^ 28 * t → ⊥
        sum e t h s i j k p q r f w = omega arith

        go : (y : Bool) → lt step (distance_of b c) ≡ y → T (lt step (distance_of b c))
        go true e = as_T _ e
        go false e =
            let number = distance_number b c sb sc na.1 nd.1 in
            let near = le_from_not_lt step (distance_of b c) (no_nan_r f0 step ps.low) number e in
            absurd (sum (count (distance_of a d)) (2 ^ 76) (count hold) (count step) _ _ _
            (no_more a b hold ph sa sb na.0 na.1 near_a) (no_more b c step ps sb sc na.1 nd.1 near) (no_more d c hold ph sd sc nd.0 nd.1 near_d) far over_two)

    -- ---- 2 ^ -20 more, which is 2 ^ 129 units, is enough
    pub stays_apart_by : count step + 2 * count hold + 2 ^ 129 < count (distance_of a d) → T (lt step (distance_of b c))
    stays_apart_by far = stays_apart (enough (count step + 2 * count hold) (count (distance_of a d)) (2 ^ 129) (2 ^ 149) (2 ^ 76) refl (lit≤ tt) (one_at_most a d sa sd na.0 nd.0) far)
      where
        enough : (m e v u t : ℕ) → 2 ^ 20 * v ≡ u → 2 ^ 32 * t ≤ u → e ≤ u → m + v < e → (2 ^ 28 + 168) * m + 3 * 2 ^ 28 * t < 2 ^ 28 * e
        enough m e v u t a b c d = omega arith
