-- A straight mix of two numbers from 0 to 1, between two places from 0 to 1, is off its line by 2 ^ -16 at most (`mixed_line`). Assumes nothing.
use mathlib.Core.Path.{◌≡◌, sym, subst}
use Prim.Native.Nat.{ℕ, ◌+◌, ◌*◌, ◌^◌, ◌≤◌, ◌<◌}
use native.Mathlib.Nat.{mul-pos}
use native.Mathlib.Omega.{arith}
use lib.Dec.{T}
use lib.Ieee.{Float, binary32, of_bits, neg, sub, add, sum, round, le}
use lib.Ieee.Fits.{sub-fits, div-fits}
use lib.Ieee.Positive.{den_pos}
use lib.Ieee.Scale.{finite}
use Rattle.float.specs.F32.{◌⊖◌, ◌⊘◌, f0, f1}
use Rattle.float.specs.Units.{count}
use Rattle.float.proofs.Order as order
use Rattle.float.proofs.Units.{factor}
use Rattle.float.proofs.UnitSums.{Counted, le_units, units_le}
use Rattle.float.proofs.RoundOff.{Part, gap}
use Rattle.float.proofs.OperationsOff.{counted_up, sub_off}
use Rattle.float.proofs.Rounding.{sub_mono, sub_rising}
use Rattle.float.proofs.SignedRound.{pro}
use Rattle.float.proofs.Spans.{quotient_low, quotient_high}
use Rattle.float.proofs.Placed.{Placed}
use Rattle.blend.specs.Blend.{linear1}
use Rattle.blend.proofs.Clear.{Clear, clear_finite, clear_counted}
use Rattle.blend.proofs.MixErrors.{Mixed}
use Rattle.blend.proofs.MixOff.{mix_off}
use Rattle.word.proofs.ThreePoints.{Line}

facts : T (finite f0) × T (finite f1) × T (finite (neg f1)) × T (le (f1 ⊖ f0) f1) × T (le (neg f1) (f0 ⊖ f1))
unfolding of_bits neg sub add sum round le
facts = (tt, tt, tt, tt, tt)

bare_le : (a b : ℕ) → a + 0 ≤ b + 0 → a ≤ b
bare_le a b h = omega arith

pub counts_le : (x y : Float) → Clear x → Clear y → T (le x y) → count x ≤ count y
counts_le x y v w h = bare_le (count x) (count y) (le_units x y _ _ _ _ (clear_counted x v) (clear_counted y w) h)

pub le_counts : (x y : Float) → Clear x → Clear y → count x ≤ count y → T (le x y)
le_counts x y v w h = units_le x y _ _ _ _ (clear_counted x v) (clear_counted y w) (more (count x) (count y) h)
  where
    more : (a b : ℕ) → a ≤ b → a + 0 ≤ b + 0
    more a b h = omega arith

-- ---- a difference of two of them
module _ (a b : Float) (wa : Clear a) (wb : Clear b) where
  gap_low : T (le (neg f1) (a ⊖ b))
  gap_low = order.le_trans (neg f1) (f0 ⊖ f1) (a ⊖ b) facts.4 (sub_mono f0 f1 a b facts.0 facts.1 (clear_finite a wa) (clear_finite b wb) wa.low wb.high)

  gap_high : T (le (a ⊖ b) f1)
  gap_high = order.le_trans (a ⊖ b) (f1 ⊖ f0) f1 (sub_mono a b f1 f0 (clear_finite a wa) (clear_finite b wb) facts.1 facts.0 wa.high wb.low) facts.3

  gap_finite : T (finite (a ⊖ b))
  gap_finite = order.finite_between (neg f1) (a ⊖ b) f1 facts.2 facts.1 gap_low gap_high

  gap_part : Part (count (a ⊖ b)) (gap (count a) (count b))
  gap_part = sub_off a b (count a) (count b) (clear_counted a wa) (clear_counted b wb) gap_finite

-- where a number from 0 to 1 lies, and off its line by little
place_of : (x : Float) → Clear x → Placed 0 x (count x)
place_of x w = record { p = count x; n = 0; is = clear_counted x w; there = same (count x) }
  where
    same : (n : ℕ) → n + 0 ≡ 0 + n
    same n = omega arith

as_line : (g b c a r u : ℕ) → Mixed u a r b c g → Line g b c a r u
as_line g b c a r u h = record { high = high (g * (a + r)) (b * r + c * a) (u * (a + r)) h; low = low (g * (a + r)) (b * r + c * a) (u * (a + r)) h }
  where
    high : (x y v : ℕ) → 2 ^ 28 * gap x y ≤ 102 * v → 2 ^ 16 * x ≤ 2 ^ 16 * y + v
    high x y v h = omega arith

    low : (x y v : ℕ) → 2 ^ 28 * gap x y ≤ 102 * v → 2 ^ 16 * y ≤ 2 ^ 16 * x + v
    low x y v h = omega arith

-- ---- the mix of b and c at t, from p to q
module _ (p q t b c : Float) (wp : Clear p) (wq : Clear q) (wt : Clear t) (wb : Clear b) (wc : Clear c) (pt : T (le p t)) (tq : T (le t q)) where
  abbrev share : Float
  share = (t ⊖ p) ⊘ (q ⊖ p)

  come_low : T (le f0 (t ⊖ p))
  come_low = sub_rising p t (clear_finite p wp) (clear_finite t wt) pt

  come_high : T (le (t ⊖ p) (q ⊖ p))
  come_high = sub_mono t p q p (clear_finite t wt) (clear_finite p wp) (clear_finite q wq) (clear_finite p wp) tq (order.le_refl p (order.no_nan_r f0 p wp.low))

  come_counted : Counted (t ⊖ p) (count (t ⊖ p)) 0
  come_counted = counted_up (t ⊖ p) (sub-fits binary32 t p) (gap_finite t p wt wp) come_low

  way_counted : Counted (q ⊖ p) (count (q ⊖ p)) 0
  way_counted = counted_up (q ⊖ p) (sub-fits binary32 q p) (gap_finite q p wq wp) (order.le_trans f0 (t ⊖ p) (q ⊖ p) come_low come_high)

  module _ (a r : ℕ) (first : count p + a ≡ count t) (last : count t + r ≡ count q) (some : 0 < a + r) where
    whole : Part (count (q ⊖ p)) (a + r)
    whole = subst (Part (count (q ⊖ p))) (far (count p) (count t) (count q) a r first last) (gap_part q p wq wp)
      where
        far : (p t q a r : ℕ) → p + a ≡ t → t + r ≡ q → gap q p ≡ a + r
        far p t q a r e f = omega arith

    way_some : 0 < count (q ⊖ p)
    way_some = above (count (q ⊖ p)) (a + r) whole.1 some
      where
        above : (v l : ℕ) → 2 ^ 24 * l ≤ 2 ^ 24 * v + l → 0 < l → 0 < v
        above v l h k = omega arith

    way_pro : 0 < pro (q ⊖ p)
    way_pro = factor (pro (q ⊖ p)) (2 ^ 149) (subst (λ (n : ℕ). 0 < n) (sym way_counted.up) (mul-pos way_some (den_pos (q ⊖ p))))

    pub share_clear : Clear share
    share_clear =
        record {
          single = div-fits binary32 (t ⊖ p) (q ⊖ p);
          low = quotient_low (t ⊖ p) (q ⊖ p) (gap_finite t p wt wp) (gap_finite q p wq wp) way_pro come_low;
          high = quotient_high (t ⊖ p) (q ⊖ p) (gap_finite t p wt wp) (gap_finite q p wq wp) way_pro come_low come_high;
        }

    pub mixed_line : Line (count (linear1 b c share)) (count b) (count c) a r (2 ^ 149)
    mixed_line =
        as_line (count (linear1 b c share)) (count b) (count c) a r (2 ^ 149)
        (mix_off p q t 0 (count p) (count q) (count t) a r (place_of p wp) (place_of q wq) (place_of t wt) first last some pt tq (gap_finite t p wt wp) (gap_finite q p wq wp) b c wb wc)
