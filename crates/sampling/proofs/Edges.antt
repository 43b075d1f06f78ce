-- The ends of the cells of a domain within ±1e38 are below 2 ^ 127 in size, so midpoints of them lie between. Assumes nothing.
-- An end is min + (max - min) * q with q from 0 to 1, each operation rounded; rounding keeps the order. From below it is at least -1e38 + 0.
-- From above, min lies between two of the numbers -1e38, -3 * 2 ^ 123, 3 * 2 ^ 123, 1e38; with the left one in the difference and the right one before it, what comes out is computed, and below 2 ^ 127.
use mathlib.Core.Path.{◌≡◌, refl, subst}
use mathlib.Core.Bool.{Bool, true, false, ◌&&◌}
use mathlib.Core.Logic.{inl, inr}
use Prim.Native.Nat.{ℕ, zero, suc, ◌≤◌, ◌<◌}
use native.Mathlib.Decide.{dec_le}
use native.Mathlib.Nat.{lt_of_not-le}
use native.Mathlib.Omega.{arith}
use lib.Dec.{T}
use lib.Ieee.{Float, binary32, round, add, sub, mul, div, neg, of_int, of_bits, le, lt, is_nan}
use lib.Ieee.Fits.{and_l, and_r, add-fits}
use lib.Ieee.Scale.{finite}
use Rattle.float.specs.F32.{◌⊕◌, ◌⊖◌, ◌⊗◌, ◌⊘◌, f0, f1}
use Rattle.float.specs.Number.{count_of, top, Within}
use Rattle.float.proofs.Order as order
use Rattle.float.proofs.Rounding.{add_mono, sub_mono, sub_rising, mul_mono}
use Rattle.float.proofs.Midpoint.{most}
use Rattle.sampling.specs.Constants.{cells}
use Rattle.sampling.specs.Cells.{edge_of}

-- ---- how far along an end is: from 0 to 1, tested once for all
abbrev along : ℕ → Float
along i = count_of i ⊘ count_of cells

unfoldable proper : ℕ → Bool
proper i = finite (along i) && (le f0 (along i) && le (along i) f1)

unfoldable all : ℕ → Bool
all zero = true
all (suc n) = proper n && all n

tested : T (all 37)
unfolding all proper of_bits of_int div round le
tested = tt

look : (n i : ℕ) → T (all n) → i < n → T (proper i)
unfolding all
look zero i h l = absurd (omega arith)
look (suc n) i h l = go (dec_le n i) (look n i (and_r (proper n) (all n) h))
  where
    go : Dec (n ≤ i) → (i < n → T (proper i)) → T (proper i)
    go (yes p) f = let e : n ≡ i = omega arith in subst (λ (j : ℕ). T (proper j)) e (and_l (proper n) (all n) h)
    go (no p) f = f (lt_of_not-le p)

-- ---- what is computed: with min from a to b, the last end is no more than b + (1e38 - a) * 1
abbrev farthest : Float → Float → Float
farthest a b = b ⊕ (most ⊖ a) ⊗ f1

record Cut (a b : Float) : Type 0 where
  first : T (finite a)
  last : T (finite b)
  span : T (finite (most ⊖ a))
  share : T (finite ((most ⊖ a) ⊗ f1))
  under : T (lt (farthest a b) top)

abbrev third : Float
third = of_bits binary32 0x7dc0_0000

cut_low : Cut (neg most) (neg third)
unfolding of_bits neg add sub mul round lt
cut_low = record { first = tt; last = tt; span = tt; share = tt; under = tt }

cut_middle : Cut (neg third) third
unfolding of_bits neg add sub mul round lt
cut_middle = record { first = tt; last = tt; span = tt; share = tt; under = tt }

cut_high : Cut third most
unfolding of_bits neg add sub mul round lt
cut_high = record { first = tt; last = tt; span = tt; share = tt; under = tt }

numbers : T (finite f0) × T (finite f1) × T (finite most) × T (finite (neg most)) × T (le f0 f0) × T (le f0 (f0 ⊗ f0)) × T (lt (neg top) (neg most ⊕ f0)) × (is_nan third ≡ false) × (is_nan (neg third) ≡ false)
unfolding of_bits neg add mul round lt le is_nan
numbers = (tt, tt, tt, tt, tt, tt, tt, refl, refl)

-- ---- an end of a cell
module _ (lo hi : Float) (fl : T (finite lo)) (fh : T (finite hi)) (low : T (le (neg most) lo)) (high : T (le hi most)) (rise : T (le lo hi)) (i : ℕ) (within : i ≤ cells) where
  far : T (finite (along i)) × T (le f0 (along i)) × T (le (along i) f1)
  unfolding proper
  far =
      let t = look 37 i tested (omega arith) in
      let a = finite (along i) in
      let b = le f0 (along i) in
      let c = le (along i) f1 in
      (and_l a (b && c) t, and_l b c (and_r a (b && c) t), and_r b c (and_r a (b && c) t))

  by_cut : (a b : Float) → Cut a b → T (le a lo) → T (le lo b) → Within (edge_of lo hi i)
  unfolding edge_of
  by_cut a b c la lb =
      let w = hi ⊖ lo in
      let d = most ⊖ a in
      let q = along i in
      let p = w ⊗ q in
      let w0 : T (le f0 w) = sub_rising lo hi fl fh rise in
      let wd : T (le w d) = sub_mono hi lo most a fh fl numbers.2 c.first high la in
      let fw : T (finite w) = order.finite_between f0 w d numbers.0 c.span w0 wd in
      let pd : T (le p (d ⊗ f1)) = mul_mono w q d f1 fw far.0 c.span numbers.1 w0 far.1 wd far.2 in
      let p0 : T (le f0 p) = order.le_trans f0 (f0 ⊗ f0) p numbers.5 (mul_mono f0 f0 w q numbers.0 numbers.0 fw far.0 numbers.4 numbers.4 w0 far.1) in
      let fp : T (finite p) = order.finite_between f0 p (d ⊗ f1) numbers.0 c.share p0 pd in
      record {
        one = add-fits binary32 lo p;
        low = order.lt-le_trans (neg top) (neg most ⊕ f0) (lo ⊕ p) numbers.6 (add_mono (neg most) f0 lo p numbers.3 numbers.0 fl fp low p0);
        high = order.le_lt_trans (lo ⊕ p) (farthest a b) top (add_mono lo p b (d ⊗ f1) fl fp c.last c.share lb pd) c.under;
      }

  pub edge_within : Within (edge_of lo hi i)
  edge_within =
      let n = order.no_nan_r (neg most) lo low in
      elim (order.le_total lo (neg third) n numbers.8) [
        | inl h ↦ by_cut (neg most) (neg third) cut_low low h
        | inr h ↦ elim (order.le_total lo third n numbers.7) [ inl k ↦ by_cut (neg third) third cut_middle h k | inr k ↦ by_cut third most cut_high k (order.le_trans lo hi most rise high) ]
      ]
