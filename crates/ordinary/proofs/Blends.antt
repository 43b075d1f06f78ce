-- The colour between two stops is finite where channels are not too large: a + t·(b - a) for channels below 2 ^ 127 in size, (b - a)·(3 - 2·t)·t·t + a up to a sixth of the largest f32.
-- Rounding keeps the order, so each step lies from what comes of its ends, and these are computed. Assumes nothing.
use mathlib.Core.Path.{◌≡◌, refl}
use mathlib.Core.Bool.{false}
use mathlib.Core.Logic.{inl, inr}
use lib.Dec.{T}
use lib.Ieee.{Float, binary32, round, add, sub, mul, neg, of_bits, le, is_nan}
use lib.Ieee.Scale.{finite}
use Rattle.float.specs.F32.{◌⊕◌, ◌⊖◌, ◌⊗◌, f0, f1, f2, f3, half}
use Rattle.float.proofs.Order as order
use Rattle.float.proofs.Rounding.{add_mono, sub_mono, mul_mono}
use Rattle.blend.specs.Blend.{linear1, smooth1}
use Rattle.float.proofs.Spans.{mul_under, mul_over, mul_swap}

-- the last f32 below 2 ^ 127, and the last of which six times it is finite
abbrev below127 : Float
below127 = of_bits binary32 0x7eff_ffff

abbrev sixth : Float
sixth = of_bits binary32 0x7e2a_aaaa

numbers : T (finite f0) × T (finite f1) × T (finite f2) × T (finite f3) × T (le f0 f0) × T (le f0 f1) × T (finite half) × (is_nan half ≡ false) × T (le f0 (f3 ⊖ f1 ⊗ f2)) × T (finite (f0 ⊗ f2)) × T (finite (f1 ⊗ f2)) × T (le f0 f2) × T (le f2 f2) × T (le f3 f3) × (is_nan f0 ≡ false)
unfolding of_bits add sub mul neg round le is_nan
numbers = (tt, tt, tt, tt, tt, tt, tt, refl, tt, tt, tt, tt, tt, tt, refl)

-- ---- linear: a lies from c to d, b from -l to l
record Cut (l c d : Float) : Type 0 where
  first : T (finite c)
  last : T (finite d)
  least : T (finite (neg l))
  most : T (finite l)
  fall : T (finite (neg l ⊖ d))
  rise : T (finite (l ⊖ c))
  down : T (le (neg l ⊖ d) f0)
  up : T (le f0 (l ⊖ c))
  fallen : T (finite ((neg l ⊖ d) ⊗ f1))
  risen : T (finite ((l ⊖ c) ⊗ f1))
  lowest : T (finite (c ⊕ (neg l ⊖ d) ⊗ f1))
  highest : T (finite (d ⊕ (l ⊖ c) ⊗ f1))

low_half : Cut below127 (neg below127) f0
unfolding of_bits neg add sub mul round le
low_half = record { first = tt; last = tt; least = tt; most = tt; fall = tt; rise = tt; down = tt; up = tt; fallen = tt; risen = tt; lowest = tt; highest = tt }

high_half : Cut below127 f0 below127
unfolding of_bits neg add sub mul round le
high_half = record { first = tt; last = tt; least = tt; most = tt; fall = tt; rise = tt; down = tt; up = tt; fallen = tt; risen = tt; lowest = tt; highest = tt }

module _ (l c d a b t : Float) (cut : Cut l c d) (fa : T (finite a)) (fb : T (finite b)) (ft : T (finite t)) (above_c : T (le c a)) (ad : T (le a d)) (bl : T (le (neg l) b)) (bh : T (le b l)) (t0 : T (le f0 t)) (t1 : T (le t f1)) where
  abbrev x : Float
  x = b ⊖ a

  low : T (le (neg l ⊖ d) x)
  low = sub_mono (neg l) d b a cut.least cut.last fb fa bl ad

  high : T (le x (l ⊖ c))
  high = sub_mono b a l c fb fa cut.most cut.first bh above_c

  fx : T (finite x)
  fx = order.finite_between (neg l ⊖ d) x (l ⊖ c) cut.fall cut.rise low high

  by_low : T (le ((neg l ⊖ d) ⊗ f1) (t ⊗ x))
  by_low = order.le_trans ((neg l ⊖ d) ⊗ f1) (x ⊗ t) (t ⊗ x) (mul_over x t (neg l ⊖ d) f1 fx ft cut.fall numbers.1 t0 t1 cut.down low) (mul_swap x t fx ft)

  by_high : T (le (t ⊗ x) ((l ⊖ c) ⊗ f1))
  by_high = order.le_trans (t ⊗ x) (x ⊗ t) ((l ⊖ c) ⊗ f1) (mul_swap t x ft fx) (mul_under x t (l ⊖ c) f1 fx ft cut.rise numbers.1 t0 t1 cut.up high)

  fy : T (finite (t ⊗ x))
  fy = order.finite_between ((neg l ⊖ d) ⊗ f1) (t ⊗ x) ((l ⊖ c) ⊗ f1) cut.fallen cut.risen by_low by_high

  cut_finite : T (finite (linear1 a b t))
  cut_finite =
      order.finite_between (c ⊕ (neg l ⊖ d) ⊗ f1) (linear1 a b t) (d ⊕ (l ⊖ c) ⊗ f1) cut.lowest cut.highest
      (add_mono c ((neg l ⊖ d) ⊗ f1) a (t ⊗ x) cut.first cut.fallen fa fy above_c by_low)
      (add_mono a (t ⊗ x) d ((l ⊖ c) ⊗ f1) fa fy cut.last cut.risen ad by_high)

module _ (a b t : Float) (fa : T (finite a)) (fb : T (finite b)) (ft : T (finite t)) (t0 : T (le f0 t)) (t1 : T (le t f1)) where
  pub linear_finite : T (le (neg below127) a) → T (le a below127) → T (le (neg below127) b) → T (le b below127) → T (finite (linear1 a b t))
  linear_finite al ah bl bh =
      elim (order.le_total a f0 (order.no_nan_l a below127 ah) numbers.14) [
        | inl h ↦ cut_finite below127 (neg below127) f0 a b t low_half fa fb ft al h bl bh t0 t1
        | inr h ↦ cut_finite below127 f0 below127 a b t high_half fa fb ft h ah bl bh t0 t1
      ]

-- ---- smoothstep: t lies from c to d
abbrev slope : Float → Float
slope t = f3 ⊖ t ⊗ f2

abbrev wide : Float
wide = sixth ⊖ neg sixth

abbrev deep : Float
deep = neg sixth ⊖ sixth

record Bend (c d : Float) : Type 0 where
  first : T (finite c)
  last : T (finite d)
  start : T (le f0 c)
  doubled : T (finite (c ⊗ f2))
  steep : T (finite (slope c))
  up1 : T (finite (wide ⊗ slope c))
  up2 : T (finite (wide ⊗ slope c ⊗ d))
  up3 : T (finite (wide ⊗ slope c ⊗ d ⊗ d))
  up4 : T (finite (wide ⊗ slope c ⊗ d ⊗ d ⊕ sixth))
  down1 : T (finite (deep ⊗ slope c))
  down2 : T (finite (deep ⊗ slope c ⊗ d))
  down3 : T (finite (deep ⊗ slope c ⊗ d ⊗ d))
  down4 : T (finite (deep ⊗ slope c ⊗ d ⊗ d ⊕ neg sixth))
  not_down1 : T (le f0 (wide ⊗ slope c))
  not_down2 : T (le f0 (wide ⊗ slope c ⊗ d))
  not_up1 : T (le (deep ⊗ slope c) f0)
  not_up2 : T (le (deep ⊗ slope c ⊗ d) f0)

flat_half : Bend f0 half
unfolding of_bits neg add sub mul round le
flat_half = record { first = tt; last = tt; start = tt; doubled = tt; steep = tt; up1 = tt; up2 = tt; up3 = tt; up4 = tt; down1 = tt; down2 = tt; down3 = tt; down4 = tt; not_down1 = tt; not_down2 = tt; not_up1 = tt; not_up2 = tt }

steep_half : Bend half f1
unfolding of_bits neg add sub mul round le
steep_half = record { first = tt; last = tt; start = tt; doubled = tt; steep = tt; up1 = tt; up2 = tt; up3 = tt; up4 = tt; down1 = tt; down2 = tt; down3 = tt; down4 = tt; not_down1 = tt; not_down2 = tt; not_up1 = tt; not_up2 = tt }

module _ (c d a b t : Float) (bend : Bend c d) (fa : T (finite a)) (fb : T (finite b)) (ft : T (finite t))
    (al : T (le (neg sixth) a)) (ah : T (le a sixth)) (bl : T (le (neg sixth) b)) (bh : T (le b sixth)) (t0 : T (le f0 t)) (t1 : T (le t f1)) (tc : T (le c t)) (td : T (le t d)) where
  abbrev w : Float
  w = b ⊖ a

  abbrev s : Float
  s = slope t

  -- how far apart the two are
  ends : T (finite sixth) × T (finite (neg sixth)) × T (finite wide) × T (finite deep) × T (le f0 wide) × T (le deep f0)
  unfolding of_bits neg add sub round le
  ends = (tt, tt, tt, tt, tt, tt)

  w_high : T (le w wide)
  w_high = sub_mono b a sixth (neg sixth) fb fa ends.0 ends.1 bh al

  w_low : T (le deep w)
  w_low = sub_mono (neg sixth) sixth b a ends.1 ends.0 fb fa bl ah

  fw : T (finite w)
  fw = order.finite_between deep w wide ends.3 ends.2 w_low w_high

  -- how steep
  twice : T (finite (t ⊗ f2))
  twice =
      order.finite_between (f0 ⊗ f2) (t ⊗ f2) (f1 ⊗ f2) numbers.9 numbers.10
      (mul_mono f0 f2 t f2 numbers.0 numbers.2 ft numbers.2 numbers.4 numbers.11 t0 numbers.12)
      (mul_mono t f2 f1 f2 ft numbers.2 numbers.1 numbers.2 t0 numbers.11 t1 numbers.12)

  s_high : T (le s (slope c))
  s_high =
      sub_mono f3 (t ⊗ f2) f3 (c ⊗ f2) numbers.3 twice numbers.3 bend.doubled numbers.13
      (mul_mono c f2 t f2 bend.first numbers.2 ft numbers.2 bend.start numbers.11 tc numbers.12)

  s_low : T (le f0 s)
  s_low =
      order.le_trans f0 (slope f1) s numbers.8
      (sub_mono f3 (f1 ⊗ f2) f3 (t ⊗ f2) numbers.3 numbers.10 numbers.3 twice numbers.13
      (mul_mono t f2 f1 f2 ft numbers.2 numbers.1 numbers.2 t0 numbers.11 t1 numbers.12))

  fs : T (finite s)
  fs = order.finite_between f0 s (slope c) numbers.0 bend.steep s_low s_high

  high1 : T (le (w ⊗ s) (wide ⊗ slope c))
  high1 = mul_under w s wide (slope c) fw fs ends.2 bend.steep s_low s_high ends.4 w_high

  low1 : T (le (deep ⊗ slope c) (w ⊗ s))
  low1 = mul_over w s deep (slope c) fw fs ends.3 bend.steep s_low s_high ends.5 w_low

  finite1 : T (finite (w ⊗ s))
  finite1 = order.finite_between (deep ⊗ slope c) (w ⊗ s) (wide ⊗ slope c) bend.down1 bend.up1 low1 high1

  high2 : T (le (w ⊗ s ⊗ t) (wide ⊗ slope c ⊗ d))
  high2 = mul_under (w ⊗ s) t (wide ⊗ slope c) d finite1 ft bend.up1 bend.last t0 td bend.not_down1 high1

  low2 : T (le (deep ⊗ slope c ⊗ d) (w ⊗ s ⊗ t))
  low2 = mul_over (w ⊗ s) t (deep ⊗ slope c) d finite1 ft bend.down1 bend.last t0 td bend.not_up1 low1

  finite2 : T (finite (w ⊗ s ⊗ t))
  finite2 = order.finite_between (deep ⊗ slope c ⊗ d) (w ⊗ s ⊗ t) (wide ⊗ slope c ⊗ d) bend.down2 bend.up2 low2 high2

  high3 : T (le (w ⊗ s ⊗ t ⊗ t) (wide ⊗ slope c ⊗ d ⊗ d))
  high3 = mul_under (w ⊗ s ⊗ t) t (wide ⊗ slope c ⊗ d) d finite2 ft bend.up2 bend.last t0 td bend.not_down2 high2

  low3 : T (le (deep ⊗ slope c ⊗ d ⊗ d) (w ⊗ s ⊗ t ⊗ t))
  low3 = mul_over (w ⊗ s ⊗ t) t (deep ⊗ slope c ⊗ d) d finite2 ft bend.down2 bend.last t0 td bend.not_up2 low2

  finite3 : T (finite (w ⊗ s ⊗ t ⊗ t))
  finite3 = order.finite_between (deep ⊗ slope c ⊗ d ⊗ d) (w ⊗ s ⊗ t ⊗ t) (wide ⊗ slope c ⊗ d ⊗ d) bend.down3 bend.up3 low3 high3

  bend_finite : T (finite (smooth1 a b t))
  bend_finite =
      order.finite_between (deep ⊗ slope c ⊗ d ⊗ d ⊕ neg sixth) (smooth1 a b t) (wide ⊗ slope c ⊗ d ⊗ d ⊕ sixth) bend.down4 bend.up4
      (add_mono (deep ⊗ slope c ⊗ d ⊗ d) (neg sixth) (w ⊗ s ⊗ t ⊗ t) a bend.down3 ends.1 finite3 fa low3 al)
      (add_mono (w ⊗ s ⊗ t ⊗ t) a (wide ⊗ slope c ⊗ d ⊗ d) sixth finite3 fa bend.up3 ends.0 high3 ah)

module _ (a b t : Float) (fa : T (finite a)) (fb : T (finite b)) (ft : T (finite t)) (t0 : T (le f0 t)) (t1 : T (le t f1)) where
  pub smooth_finite : T (le (neg sixth) a) → T (le a sixth) → T (le (neg sixth) b) → T (le b sixth) → T (finite (smooth1 a b t))
  smooth_finite al ah bl bh =
      elim (order.le_total t half (order.no_nan_l t f1 t1) numbers.7) [
        | inl h ↦ bend_finite f0 half a b t flat_half fa fb ft al ah bl bh t0 t1 t0 h
        | inr h ↦ bend_finite half f1 a b t steep_half fa fb ft al ah bl bh t0 t1 h t1
      ]
