-- a + t·(b - a) of channels from 0 to 1, each operation rounded, lies from 0 to 1. It need not lie between a and b: a + 1·(b - a) can miss b by a unit, but not where b is 0 or 1.
-- From below it is no less than a + (0 - a), which is 0. From above it is no more than a + n, where n is 1 - a rounded; n is no more than the next multiple of 2 ^ -24, which is an f32.
-- So a + n is below 1 + 2 ^ -24, which is rounded to 1. Assumes nothing.
use mathlib.Core.Path.{◌≡◌, refl, sym, ap, ◌∙◌, subst}
use mathlib.Core.Bool.{true, false, true≢false}
use Prim.Native.Nat.{ℕ, suc, ◌+◌, ◌-◌, ◌*◌, ◌/◌, ◌^◌, ◌≤◌, ◌<◌}
use native.Mathlib.Nat.{le_of_eq, lt_of_lt_of_le, lt_of_not-le, mul_assoc, suc-mul, add-mul, mul-le-mul_right, le_of_mul-le-mul_right, div-lt_iff_lt-mul, le-div_iff_mul-le}
use native.Mathlib.Decide.{dec_le}
use native.Mathlib.Omega.{arith}
use lib.Dec.{T, lit<, lit≤}
use lib.Pow.{pow_mono, shl_lt}
use lib.Ieee.{Float, nan, inf, fin, binary32, round, add, sub, neg, of_bits, le, fits}
use lib.Ieee.Exact.{HasValue, round_exact}
use lib.Ieee.Fits.{neg-fits, sub-fits}
use lib.Ieee.Positive.{den, den_pos}
use lib.Ieee.Scale.{finite}
use Rattle.float.specs.F32.{◌⊕◌, ◌⊖◌, ◌⊗◌, f0, f1}
use Rattle.float.proofs.Order as order
use Rattle.float.proofs.Rounding.{no_con, add_mono, sub_mono, sub_rising, dens_pos, neg-finite, neg_view}
use Rattle.float.proofs.SignedRound.{rounds_le, round_rounds, zero_rounds, pro, con, linear_from_le, add_rounds, mul_rounds}
use Rattle.blend.specs.Blend.{linear1}
use Rattle.float.proofs.Spans.{mul_under, mul_over, mul_swap, rounded_above, rounded_below, sub_rounds}

numbers : T (finite f0) × T (finite f1) × T (le f0 f0) × T (le f0 f1) × T (le f1 f1) × T (finite (f1 ⊖ f0)) × T (finite (f0 ⊖ f1)) × T (finite (f0 ⊖ f0)) × T (le (f0 ⊖ f0) f0)
unfolding of_bits add sub neg round le
numbers = (tt, tt, tt, tt, tt, tt, tt, tt, tt)

-- ---- x times 1 is x
module _ (x : Float) (t : T (fits binary32 x)) (f : T (finite x)) where
  pub once_low : T (le x (x ⊗ f1))
  unfolding of_bits
  once_low = rounded_above x (x ⊗ f1) t f _ _ _ (mul_rounds x f1 f tt) (dens_pos x f1) (omega arith)

  pub once_high : T (le (x ⊗ f1) x)
  unfolding of_bits
  once_high = rounded_below x (x ⊗ f1) t f _ _ _ (mul_rounds x f1 f tt) (dens_pos x f1) (omega arith)

-- ---- k / 2 ^ 24, for k up to 2 ^ 24, is an f32
abbrev part : ℕ → Float
part k = round binary32 false k 16777216

whole_value : HasValue (part 16777216) false 16777216 16777216
unfolding round
whole_value = (refl, refl)

part_value : (k : ℕ) → k ≤ 16777216 → HasValue (part k) false k 16777216
part_value k h = go (dec_le 16777216 k)
  where
    go : Dec (16777216 ≤ k) → HasValue (part k) false k 16777216
    go (yes l) = let e : 16777216 ≡ k = omega arith in subst (λ (n : ℕ). HasValue (part n) false n 16777216) e whole_value
    go (no f) =
        let l : k < 2 ^ 24 = lt_of_not-le f in
        round_exact binary32 false k (2 ^ 24) k 125 (lit< tt) l (lt_of_lt_of_le (shl_lt 24 125 l) (pow_mono {i = 149} {j = 277} (lit≤ tt))) (sym (mul_assoc k (2 ^ 125) (2 ^ 24)))

of_value : (x : Float) (k c : ℕ) → HasValue x false k c → T (finite x) × (pro x * c ≡ k * den x) × (con x ≡ 0)
of_value nan k c v = absurd v
of_value (inf s) k c v = absurd v
of_value (fin true m e) k c v = absurd (true≢false v.0)
of_value (fin false m e) k c v = (tt, v.1, refl)

-- with p / d up to 1, k / 2 ^ 24 is the next multiple above 1 - p / d
next : (p d : ℕ) → 0 < d → p ≤ d → (k : ℕ) × (k ≤ 16777216) × (d * 16777216 ≤ p * 16777216 + k * d) × (p * 16777216 + k * d ≤ 16777217 * d)
next p d D h =
    let j = p * 16777216 / d in
    let a : j * d ≤ p * 16777216 = (le-div_iff_mul-le D).0 (le_of_eq refl) in
    let b : p * 16777216 < suc j * d = (div-lt_iff_lt-mul {k = d} D).0 (lt-suc j) in
    let c : j ≤ 16777216 = le_of_mul-le-mul_right {k = d} (omega arith) D in
    let e : (16777216 - j) * d + j * d ≡ 16777216 * d = sym (add-mul (16777216 - j) j d) ∙ ap (λ (n : ℕ). n * d) (back j c) in
    (16777216 - j, omega arith, omega (arith, suc-mul j d), omega (arith, suc-mul j d))
  where
    lt-suc : (n : ℕ) → n < suc n
    lt-suc n = omega arith

    back : (j : ℕ) → j ≤ 16777216 → 16777216 - j + j ≡ 16777216
    back j c = omega arith

-- 1 + 2 ^ -24 is rounded to 1
past_one : T (le (round binary32 false 16777217 16777216) f1)
unfolding of_bits round le
past_one = tt

module _ (a : Float) (ta : T (fits binary32 a)) (fa : T (finite a)) (low : T (le f0 a)) (high : T (le a f1)) where
  abbrev rest : Float
  rest = f1 ⊖ a

  none : con a ≡ 0
  none = no_con a fa low

  most : pro a ≤ den a
  unfolding of_bits
  most = let l = linear_from_le a f1 fa tt high in omega (arith, l, none)

  sum_under : (k : ℕ) (z : Float) → T (finite z) → pro z * 16777216 ≡ k * den z → con z ≡ 0 → pro a * 16777216 + k * den a ≤ 16777217 * den a → T (le (a ⊕ z) f1)
  sum_under k z fz v c h =
      order.le_trans (a ⊕ z) (round binary32 false 16777217 16777216) f1
      (rounds_le (add_rounds a z fa fz) (round_rounds false 16777217 16777216) (dens_pos a z) (lit< tt)
      (let m : (pro a * 16777216 + k * den a) * den z ≤ 16777217 * den a * den z = mul-le-mul_right (den z) h in
      rw (none, c) (omega (arith, m, ap (λ (n : ℕ). n * den a) v))))
      past_one

  -- a + n is no more than 1 where n is no more than 1 - a
  pub fills_up : (n : Float) → T (finite n) → T (finite rest) → T (le n rest) → T (le (a ⊕ n) f1)
  unfolding of_bits
  fills_up n fn fr h =
      let w = next (pro a) (den a) (den_pos a) most in
      let k = w.0 in
      let v = of_value (part k) k 16777216 (part_value k w.1) in
      let m : T (le rest (part k)) = rounds_le (sub_rounds f1 a tt fa) (round_rounds false k 16777216) (dens_pos f1 a) (lit< tt) (rw none (omega (arith, w.2))) in
      order.le_trans (a ⊕ n) (a ⊕ part k) f1 (add_mono a n a (part k) fa fn fa v.0 (order.le_refl a (order.no_nan_l a f1 high)) (order.le_trans n rest (part k) h m))
      (sum_under k (part k) v.0 v.1 v.2 w.3)

-- ---- the channel
module _ (a b t : Float) (ta : T (fits binary32 a)) (fa : T (finite a)) (fb : T (finite b)) (ft : T (finite t)) (a0 : T (le f0 a)) (a1 : T (le a f1)) (b0 : T (le f0 b)) (b1 : T (le b f1)) (t0 : T (le f0 t)) (t1 : T (le t f1)) where
  abbrev x : Float
  x = b ⊖ a

  abbrev y : Float
  y = t ⊗ x

  fx : T (finite x)
  fx =
      order.finite_between (f0 ⊖ f1) x (f1 ⊖ f0) numbers.6 numbers.5
      (sub_mono f0 f1 b a numbers.0 numbers.1 fb fa b0 a1) (sub_mono b a f1 f0 fb fa numbers.1 numbers.0 b1 a0)

  -- what is left up to 1, and down to 0
  fr : T (finite (f1 ⊖ a))
  fr =
      order.finite_between f0 (f1 ⊖ a) (f1 ⊖ f0) numbers.0 numbers.5
      (sub_rising a f1 fa numbers.1 a1) (sub_mono f1 a f1 f0 numbers.1 fa numbers.1 numbers.0 numbers.4 a0)

  fd : T (finite (f0 ⊖ a))
  fd =
      order.finite_between (f0 ⊖ f1) (f0 ⊖ a) (f0 ⊖ f0) numbers.6 numbers.7
      (sub_mono f0 f1 f0 a numbers.0 numbers.1 numbers.0 fa numbers.2 a1) (sub_mono f0 a f0 f0 numbers.0 fa numbers.0 numbers.0 numbers.2 a0)

  high : T (le y (f1 ⊖ a))
  high =
      order.le_trans y (x ⊗ t) (f1 ⊖ a) (mul_swap t x ft fx)
      (order.le_trans (x ⊗ t) ((f1 ⊖ a) ⊗ f1) (f1 ⊖ a)
      (mul_under x t (f1 ⊖ a) f1 fx ft fr numbers.1 t0 t1 (sub_rising a f1 fa numbers.1 a1) (sub_mono b a f1 a fb fa numbers.1 fa b1 (order.le_refl a (order.no_nan_l a f1 a1))))
      (once_high (f1 ⊖ a) (sub-fits binary32 f1 a) fr))

  low : T (le (f0 ⊖ a) y)
  low =
      order.le_trans (f0 ⊖ a) (x ⊗ t) y
      (order.le_trans (f0 ⊖ a) ((f0 ⊖ a) ⊗ f1) (x ⊗ t)
      (once_low (f0 ⊖ a) (sub-fits binary32 f0 a) fd)
      (mul_over x t (f0 ⊖ a) f1 fx ft fd numbers.1 t0 t1
      (order.le_trans (f0 ⊖ a) (f0 ⊖ f0) f0 (sub_mono f0 a f0 f0 numbers.0 fa numbers.0 numbers.0 numbers.2 a0) numbers.8)
      (sub_mono f0 a b a numbers.0 fa fb fa b0 (order.le_refl a (order.no_nan_l a f1 a1)))))
      (mul_swap x t fx ft)

  fy : T (finite y)
  fy = order.finite_between (f0 ⊖ a) y (f1 ⊖ a) fd fr low high

  pub blend_high : T (le (linear1 a b t) f1)
  blend_high = fills_up a ta fa a0 a1 y fy fr high

  minus : T (le (neg a) (f0 ⊖ a))
  unfolding of_bits
  minus =
      let v = neg_view a in
      rounded_above (neg a) (f0 ⊖ a) (neg-fits binary32 a ta) (neg-finite a fa) _ _ _ (sub_rounds f0 a tt fa) (dens_pos f0 a) (rw (v.0, v.1, v.2) (omega arith))

  pub blend_low : T (le f0 (linear1 a b t))
  blend_low =
      let v = neg_view a in
      order.le_trans f0 (a ⊕ neg a) (a ⊕ y)
      (rounds_le zero_rounds (add_rounds a (neg a) fa (neg-finite a fa)) (lit< tt) (dens_pos a (neg a)) (rw (v.0, v.1, v.2) (omega arith)))
      (add_mono a (neg a) a y fa (neg-finite a fa) fa fy (order.le_refl a (order.no_nan_l a f1 a1)) (order.le_trans (neg a) (f0 ⊖ a) y minus low))
