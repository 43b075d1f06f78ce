-- Numbers in a row, 0 ≤ x ≤ y ≤ t with t finite: sums, products and quotients of two rows are a row. So a sum of powers whose coefficients are not negative keeps the order, step by step. Assumes nothing.
use mathlib.Core.Path.{◌≡◌, refl, subst}
use Prim.Native.Nat.{◌<◌}
use lib.Dec.{T}
use lib.Ieee.{Float, of_bits, le, add, mul}
use lib.Ieee.Scale.{finite}
use Rattle.float.specs.F32.{◌⊕◌, ◌⊗◌, ◌⊘◌, f0}
use Rattle.float.proofs.Order.{le_trans, le_refl, finite_between, no_nan_r}
use Rattle.float.proofs.Rounding.{add_mono, mul_mono}
use Rattle.float.proofs.SignedRound.{pro}
use Rattle.float.proofs.Spans.{quotient_low}
use Rattle.float.proofs.Quotients.{some_more, div_mono}

pub record Chain (x y t : Float) : Type 0 where
  pub low : T (le f0 x)
  pub mid : T (le x y)
  pub high : T (le y t)
  pub bounded : T (finite t)

-- ---- closed facts
zero-finite : T (finite f0)
unfolding of_bits
zero-finite = tt

zero-zero : T (le f0 f0)
unfolding of_bits le
zero-zero = tt

zero_sum : f0 ⊕ f0 ≡ f0
unfolding of_bits add
zero_sum = refl

zero_product : f0 ⊗ f0 ≡ f0
unfolding of_bits mul
zero_product = refl

-- ---- each of a row is finite
module _ {x y t : Float} (c : Chain x y t) where
  pub second_low : T (le f0 y)
  second_low = le_trans f0 x y c.low c.mid

  pub second_finite : T (finite y)
  second_finite = finite_between f0 y t zero-finite c.bounded second_low c.high

  pub first_finite : T (finite x)
  first_finite = finite_between f0 x y zero-finite second_finite c.low c.mid

-- a number beside itself
pub chain_same : (x : Float) → T (finite x) → T (le f0 x) → Chain x x x
chain_same x f h = let r = le_refl x (no_nan_r f0 x h) in record { low = h; mid = r; high = r; bounded = f }

-- ---- two rows
module _ {x y t u v w : Float} (c : Chain x y t) (d : Chain u v w) where
  pub chain_sum : T (finite (t ⊕ w)) → Chain (x ⊕ u) (y ⊕ v) (t ⊕ w)
  chain_sum f = record {
    low = subst (λ (z : Float). T (le z (x ⊕ u))) zero_sum (add_mono f0 f0 x u zero-finite zero-finite (first_finite c) (first_finite d) c.low d.low);
    mid = add_mono x u y v (first_finite c) (first_finite d) (second_finite c) (second_finite d) c.mid d.mid;
    high = add_mono y v t w (second_finite c) (second_finite d) c.bounded d.bounded c.high d.high;
    bounded = f;
  }

  pub chain_product : T (finite (t ⊗ w)) → Chain (x ⊗ u) (y ⊗ v) (t ⊗ w)
  chain_product f = record {
    low = subst (λ (z : Float). T (le z (x ⊗ u))) zero_product (mul_mono f0 f0 x u zero-finite zero-finite (first_finite c) (first_finite d) zero-zero zero-zero c.low d.low);
    mid = mul_mono x u y v (first_finite c) (first_finite d) (second_finite c) (second_finite d) c.low d.low c.mid d.mid;
    high = mul_mono y v t w (second_finite c) (second_finite d) c.bounded d.bounded (second_low c) (second_low d) c.high d.high;
    bounded = f;
  }

  -- by the second row the other way round, whose first is above zero
  pub chain_quotient : 0 < pro u → T (finite (t ⊘ u)) → Chain (x ⊘ w) (y ⊘ v) (t ⊘ u)
  chain_quotient s f =
      let fu = first_finite d in
      let fv = second_finite d in
      let sv = some_more u v fu fv d.low s d.mid in
      record {
        low = quotient_low x w (first_finite c) d.bounded (some_more v w fv d.bounded (second_low d) sv d.high) c.low;
        mid = div_mono x w y v (first_finite c) d.bounded (second_finite c) fv c.low c.mid (second_low d) sv d.high;
        high = div_mono y v t u (second_finite c) fv c.bounded fu (second_low c) c.high d.low s d.mid;
        bounded = f;
      }
