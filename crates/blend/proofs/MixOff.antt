-- How far off a mix a + x·(b - a) of channels from 0 to 1 may be, with x = (t - p) / (q - p) and t from p to q: 102 parts in 2 ^ 28 of 1 (`mix_off`), which is about 6.4 in 2 ^ 24. Assumes nothing.
use mathlib.Core.Path.{◌≡◌, refl, sym, subst}
use mathlib.Core.Logic.{inl, inr}
use Prim.Native.Nat.{ℕ, ◌+◌, ◌*◌, ◌^◌, ◌≤◌, ◌<◌}
use native.Mathlib.Omega.{arith}
use lib.Dec.{T, lit<, lit≤}
use lib.Pow.{pow_pos}
use lib.Ieee.{Float, binary32, of_bits, neg, add, sub, sum, mul, round, le}
use lib.Ieee.Bits.{of_bits-fits}
use lib.Ieee.Fits.{sub-fits, mul-fits, div-fits}
use lib.Ieee.Scale.{finite}
use Rattle.float.specs.F32.{◌⊕◌, ◌⊖◌, ◌⊗◌, ◌⊘◌, f0, f1}
use Rattle.float.specs.Units.{count}
use Rattle.float.proofs.Order as order
use Rattle.float.proofs.Rounding.{dens_pos, add_mono, mul_mono, sub_mono, sub_rising}
use Rattle.float.proofs.SignedRound.{pro, rounds_le, zero_rounds, linear_from_le}
use Rattle.float.proofs.Spans.{mul_under, mul_over, mul_swap, sub_rounds, quotient_low, quotient_high}
use Rattle.float.proofs.UnitSums.{Counted, le_units}
use Rattle.float.proofs.RoundOff.{Part, Off, gap}
use Rattle.float.proofs.OperationsOff.{counted_up, sub_off, mul_off}
use Rattle.float.proofs.SignedOff.{counted_down, add_signed_off, some_up, div_off}
use Rattle.float.proofs.Placed.{Placed, place_sub}
use Rattle.blend.specs.Blend.{linear1}
use Rattle.blend.proofs.Clear.{Clear, clear_finite, clear_counted}
use Rattle.blend.proofs.MixErrors.{Steps, Mixed, mixed_up, mixed_down}

units : T (finite f0) × T (finite f1) × T (le f0 f0) × T (le f1 f1) × T (finite (f1 ⊖ f0)) × T (finite (f0 ⊖ f1)) × T (le f0 (f0 ⊗ f0)) × T (le (f0 ⊗ f1) f0)
unfolding of_bits neg add sub sum mul round le
units = (tt, tt, tt, tt, tt, tt, tt, tt)

bounds : T (finite ((f0 ⊖ f1) ⊗ f1)) × T (finite (f1 ⊗ (f1 ⊖ f0))) × T (finite (f0 ⊕ (f0 ⊖ f1) ⊗ f1)) × T (finite (f1 ⊕ f1 ⊗ (f1 ⊖ f0))) × T (le (f0 ⊖ f1) f0) × T (le f0 (f1 ⊖ f0))
unfolding of_bits neg add sub sum mul round le
bounds = (tt, tt, tt, tt, tt, tt)

one_counted : Counted f1 (2 ^ 149) 0
unfolding of_bits
one_counted = record { whole = tt; single = of_bits-fits binary32 0x3f80_0000; up = refl; down = refl }

in_order : (x y : Float) (p q : ℕ) → Counted x p 0 → Counted y q 0 → T (le x y) → p ≤ q
in_order x y p q h k l = bare p q (le_units x y p 0 q 0 h k l)
  where
    bare : (m n : ℕ) → m + 0 ≤ n + 0 → m ≤ n
    bare m n k = omega arith

clear_most : (x : Float) → Clear x → count x ≤ 2 ^ 149
clear_most x w = in_order x f1 (count x) (2 ^ 149) (clear_counted x w) one_counted w.high

-- ---- the share
module _ (p q t : Float) (m P Q R τ σ : ℕ) (at_p : Placed m p P) (at_q : Placed m q Q) (at_t : Placed m t R) (come : P + τ ≡ R) (left : R + σ ≡ Q) (wide : 0 < τ + σ)
    (from : T (le p t)) (to : T (le t q)) (fc : T (finite (t ⊖ p))) (fa : T (finite (q ⊖ p))) where
  abbrev pub share : Float
  share = (t ⊖ p) ⊘ (q ⊖ p)

  fp : T (finite p)
  fp = at_p.is.whole

  ft : T (finite t)
  ft = at_t.is.whole

  fq : T (finite q)
  fq = at_q.is.whole

  come_part : Part (count (t ⊖ p)) τ
  come_part = subst (Part (count (t ⊖ p))) (is P R τ come) (place_sub m t p R P at_t at_p fc)
    where
      is : (a b k : ℕ) → a + k ≡ b → gap b a ≡ k
      is a b k e = omega arith

  all_part : Part (count (q ⊖ p)) (τ + σ)
  all_part = subst (Part (count (q ⊖ p))) (is P R Q come left) (place_sub m q p Q P at_q at_p fa)
    where
      is : (a b c : ℕ) → a + τ ≡ b → b + σ ≡ c → gap c a ≡ τ + σ
      is a b c e f = omega arith

  come_low : T (le f0 (t ⊖ p))
  come_low = sub_rising p t fp ft from

  come_counted : Counted (t ⊖ p) (count (t ⊖ p)) 0
  come_counted = counted_up (t ⊖ p) (sub-fits binary32 t p) fc come_low

  all_counted : Counted (q ⊖ p) (count (q ⊖ p)) 0
  all_counted = counted_up (q ⊖ p) (sub-fits binary32 q p) fa (sub_rising p q fp fq (order.le_trans p t q from to))

  some : 0 < count (q ⊖ p)
  some = above (count (q ⊖ p)) (τ + σ) wide all_part.1
    where
      above : (z d : ℕ) → 0 < d → 2 ^ 24 * d ≤ 2 ^ 24 * z + d → 0 < z
      above z d D h = omega arith

  some_pro : 0 < pro (q ⊖ p)
  some_pro = some_up (q ⊖ p) (count (q ⊖ p)) all_counted.up some

  share_low : T (le f0 share)
  share_low = quotient_low (t ⊖ p) (q ⊖ p) fc fa some_pro come_low

  share_high : T (le share f1)
  share_high = quotient_high (t ⊖ p) (q ⊖ p) fc fa some_pro come_low (sub_mono t p q p ft fp fq fp to (order.le_refl p (order.no_nan_l p t from)))

  share-finite : T (finite share)
  share-finite = order.finite_between f0 share f1 units.0 units.1 share_low share_high

  share_off : Off (count share) (count (t ⊖ p) * 2 ^ 149) (count (q ⊖ p))
  share_off = div_off (t ⊖ p) (q ⊖ p) _ _ come_counted all_counted some share-finite

  -- ---- the mix
  module _ (a b : Float) (wa : Clear a) (wb : Clear b) where
    abbrev x : Float
    x = b ⊖ a

    abbrev y : Float
    y = share ⊗ x

    fca : T (finite a)
    fca = clear_finite a wa

    fcb : T (finite b)
    fcb = clear_finite b wb

    x_least : T (le (f0 ⊖ f1) x)
    x_least = sub_mono f0 f1 b a units.0 units.1 fcb fca wb.low wa.high

    x_most : T (le x (f1 ⊖ f0))
    x_most = sub_mono b a f1 f0 fcb fca units.1 units.0 wb.high wa.low

    fx : T (finite x)
    fx = order.finite_between (f0 ⊖ f1) x (f1 ⊖ f0) units.5 units.4 x_least x_most

    y_least : T (le ((f0 ⊖ f1) ⊗ f1) y)
    y_least =
        order.le_trans ((f0 ⊖ f1) ⊗ f1) (x ⊗ share) y
        (mul_over x share (f0 ⊖ f1) f1 fx share-finite units.5 units.1 share_low share_high bounds.4 x_least) (mul_swap x share fx share-finite)

    y_most : T (le y (f1 ⊗ (f1 ⊖ f0)))
    y_most =
        order.le_trans y (x ⊗ share) (f1 ⊗ (f1 ⊖ f0)) (mul_swap share x share-finite fx)
        (order.le_trans (x ⊗ share) ((f1 ⊖ f0) ⊗ f1) (f1 ⊗ (f1 ⊖ f0))
        (mul_under x share (f1 ⊖ f0) f1 fx share-finite units.4 units.1 share_low share_high bounds.5 x_most) (mul_swap (f1 ⊖ f0) f1 units.4 units.1))

    fy : T (finite y)
    fy = order.finite_between ((f0 ⊖ f1) ⊗ f1) y (f1 ⊗ (f1 ⊖ f0)) bounds.0 bounds.1 y_least y_most

    fm : T (finite (a ⊕ y))
    fm =
        order.finite_between (f0 ⊕ (f0 ⊖ f1) ⊗ f1) (a ⊕ y) (f1 ⊕ f1 ⊗ (f1 ⊖ f0)) bounds.2 bounds.3
        (add_mono f0 ((f0 ⊖ f1) ⊗ f1) a y units.0 bounds.0 fca fy wa.low y_least) (add_mono a y f1 (f1 ⊗ (f1 ⊖ f0)) fca fy units.1 bounds.1 wa.high y_most)

    abbrev g : ℕ
    g = gap (count b) (count a)

    steps : Steps (2 ^ 149) τ (τ + σ) g (count y)
    steps =
        record {
          z₁ = count (t ⊖ p);
          z₂ = count (q ⊖ p);
          z₃ = count x;
          x = count share;
          come = come_part;
          all = all_part;
          share = share_off;
          apart = sub_off b a (count b) (count a) (clear_counted b wb) (clear_counted a wa) fx;
          product = mul_off share x (div-fits binary32 (t ⊖ p) (q ⊖ p)) (sub-fits binary32 b a) share-finite fx fy;
        }

    up_way : T (le a b) → Mixed (2 ^ 149) τ σ (count a) (count b) (count (a ⊕ y))
    up_way h =
        let l = in_order a b (count a) (count b) (clear_counted a wa) (clear_counted b wb) h in
        let positive : T (le f0 y) = order.le_trans f0 (f0 ⊗ f0) y units.6 (mul_mono f0 f0 share x units.0 units.0 share-finite fx units.2 units.2 share_low (sub_rising a b fca fcb h)) in
        let s = add_signed_off a y (count a) 0 (count y) 0 (clear_counted a wa) (counted_up y (mul-fits binary32 share x) fy positive) fm in
        let e : count a + g ≡ count b = is (count a) (count b) l in
        subst (λ (k : ℕ). Mixed (2 ^ 149) τ σ (count a) k (count (a ⊕ y))) e
        (mixed_up (2 ^ 149) τ σ g (count y) steps (pow_pos 149) (lit≤ tt) (count a) (count (a ⊕ y)) (subst (λ (k : ℕ). k ≤ 2 ^ 149) (sym e) (clear_most b wb)) (subst (Part (count (a ⊕ y))) (alone (count a + count y)) s))
      where
        is : (m n : ℕ) → m ≤ n → m + gap n m ≡ n
        is m n h = omega arith

        alone : (n : ℕ) → gap n (0 + 0) ≡ n
        alone n = omega arith

    down_way : T (le b a) → Mixed (2 ^ 149) τ σ (count a) (count b) (count (a ⊕ y))
    down_way h =
        let l = in_order b a (count b) (count a) (clear_counted b wb) (clear_counted a wa) h in
        let below : T (le x f0) = rounds_le (sub_rounds b a fcb fca) zero_rounds (dens_pos b a) (lit< tt) (omega (arith, linear_from_le b a fcb fca h)) in
        let negative : T (le y f0) =
        order.le_trans y (x ⊗ share) f0 (mul_swap share x share-finite fx)
        (order.le_trans (x ⊗ share) (f0 ⊗ f1) f0 (mul_under x share f0 f1 fx share-finite units.0 units.1 share_low share_high units.2 below) units.7) in
        let s = add_signed_off a y (count a) 0 0 (count y) (clear_counted a wa) (counted_down y (mul-fits binary32 share x) fy negative) fm in
        let e : count b + g ≡ count a = is (count b) (count a) l in
        subst (λ (k : ℕ). Mixed (2 ^ 149) τ σ k (count b) (count (a ⊕ y))) e
        (mixed_down (2 ^ 149) τ σ g (count y) steps (pow_pos 149) (lit≤ tt) (count b) (count (a ⊕ y)) (subst (λ (k : ℕ). k ≤ 2 ^ 149) (sym e) (clear_most a wa))
        (subst (λ (k : ℕ). Part (count (a ⊕ y)) (gap k (count y))) (sym e) (subst (Part (count (a ⊕ y))) (bare (count a) (count y)) s)))
      where
        is : (m n : ℕ) → m ≤ n → m + gap m n ≡ n
        is m n h = omega arith

        bare : (m n : ℕ) → gap (m + 0) (0 + n) ≡ gap m n
        bare m n = omega arith

    pub mix_off : Mixed (2 ^ 149) τ σ (count a) (count b) (count (linear1 a b share))
    mix_off = elim (order.le_total a b (order.no_nan_r f0 a wa.low) (order.no_nan_r f0 b wb.low)) [ inl h ↦ up_way h | inr h ↦ down_way h ]
