-- Differences no larger than a number: how large their squares, the sum of these and half its root can be. Assumes nothing.
use mathlib.Core.Path.{◌≡◌, refl, sym, subst}
use mathlib.Core.Bool.{true, false}
use mathlib.Core.Logic.{inl, inr}
use native.Mathlib.Nat.{mul-pos}
use native.Mathlib.Omega.{arith}
use lib.Dec.{T, lit<}
use lib.Ieee.{Float, nan, inf, fin, binary32, of_bits, fits, neg, add, sum, mul, round, le}
use lib.Ieee.Bits.{of_bits-fits}
use lib.Ieee.Positive.{den_pos}
use lib.Ieee.Scale.{finite}
use Rattle.float.specs.F32.{◌⊕◌, ◌⊖◌, ◌⊗◌, ◌⊘◌, f0, f2}
use Rattle.float.proofs.Order as order
use Rattle.float.proofs.Rounding.{add_mono, mul_mono, neg-finite}
use Rattle.float.proofs.SignedRound.{neg-le, linear_from_le, rounds_le, half_rounds}
use Rattle.sqrt.specs.Root.{root_of}
use Rattle.sqrt.proofs.Theorems.{root_keeps_order}
use Rattle.blend.specs.declared.Rgba.{Rgba}
use Rattle.difference.specs.Difference.{squares_of}

zero_facts : T (finite f0) × T (le f0 f0) × T (le f0 (f0 ⊗ f0)) × T (le f0 (neg f0)) × T (le f0 (f0 ⊕ f0)) × T (finite (root_of f0)) × T (le f0 (root_of f0))
unfolding root_of of_bits neg mul add sum round le
zero_facts = (tt, tt, tt, tt, tt, tt, tt)

-- ---- from 0 to the most
pub record From0 (x most : Float) : Type 0 where
  pub low : T (le f0 x)
  pub high : T (le x most)

pub from0_finite : {x most : Float} → T (finite most) → From0 x most → T (finite x)
from0_finite {x} {most} f w = order.finite_between f0 x most zero_facts.0 f w.low w.high

-- ---- squares
square_neg : (x : Float) → x ⊗ x ≡ neg x ⊗ neg x
unfolding mul neg
square_neg nan = refl
square_neg (inf true) = refl
square_neg (inf false) = refl
square_neg (fin true m e) = refl
square_neg (fin false m e) = refl

neg-neg : (x : Float) → neg (neg x) ≡ x
unfolding neg
neg-neg nan = refl
neg-neg (inf true) = refl
neg-neg (inf false) = refl
neg-neg (fin true m e) = refl
neg-neg (fin false m e) = refl

module _ (most : Float) (whole : T (finite most)) where
  square_up : (x : Float) → T (finite x) → T (le f0 x) → T (le x most) → From0 (x ⊗ x) (most ⊗ most)
  square_up x f a b =
      record {
        low = order.le_trans f0 (f0 ⊗ f0) (x ⊗ x) zero_facts.2 (mul_mono f0 f0 x x zero_facts.0 zero_facts.0 f f zero_facts.1 zero_facts.1 a a);
        high = mul_mono x x most most f f whole whole a a b b;
      }

  pub square_small : (x : Float) → T (le (neg most) x) → T (le x most) → From0 (x ⊗ x) (most ⊗ most)
  square_small x a b =
      elim (order.le_total f0 x (order.no_nan_l f0 f0 zero_facts.1) (order.no_nan_r (neg most) x a)) [
        | inl h ↦ square_up x fx h b
        | inr h ↦ subst (λ (y : Float). From0 y (most ⊗ most)) (sym (square_neg x))
            (square_up (neg x) (neg-finite x fx) (order.le_trans f0 (neg f0) (neg x) zero_facts.3 (neg-le x f0 h)) (subst (λ (y : Float). T (le (neg x) y)) (neg-neg most) (neg-le (neg most) x a)))
      ]
    where
      fx : T (finite x)
      fx = order.finite_between (neg most) x most (neg-finite most whole) whole a b

-- ---- sums
pub add_small : (x y m n : Float) → T (finite m) → T (finite n) → From0 x m → From0 y n → From0 (x ⊕ y) (m ⊕ n)
add_small x y m n fm fn a b =
    let fx = from0_finite fm a in
    let fy = from0_finite fn b in
    record {
      low = order.le_trans f0 (f0 ⊕ f0) (x ⊕ y) zero_facts.4 (add_mono f0 f0 x y zero_facts.0 zero_facts.0 fx fy a.low b.low);
      high = add_mono x y m n fx fy fm fn a.high b.high;
    }

-- the sums of two, three and four squares of the most, finite
abbrev pub most2 : Float → Float
most2 m = m ⊗ m ⊕ m ⊗ m

abbrev pub most3 : Float → Float
most3 m = most2 m ⊕ m ⊗ m

abbrev pub most4 : Float → Float
most4 m = most3 m ⊕ m ⊗ m

pub record Room (m : Float) : Type 0 where
  pub whole : T (finite m)
  pub one : T (finite (m ⊗ m))
  pub two : T (finite (most2 m))
  pub three : T (finite (most3 m))
  pub four : T (finite (most4 m))

pub record Small (x m : Float) : Type 0 where
  pub least : T (le (neg m) x)
  pub most : T (le x m)

module _ (m : Float) (room : Room m) (x y : Rgba) (r : Small (x.r ⊖ y.r) m) (g : Small (x.g ⊖ y.g) m) (b : Small (x.b ⊖ y.b) m) (a : Small (x.a ⊖ y.a) m) where
  square : (z : Float) → Small z m → From0 (z ⊗ z) (m ⊗ m)
  square z w = square_small m room.whole z w.least w.most

  pub two_small : From0 ((x.r ⊖ y.r) ⊗ (x.r ⊖ y.r) ⊕ (x.g ⊖ y.g) ⊗ (x.g ⊖ y.g)) (most2 m)
  two_small = add_small _ _ (m ⊗ m) (m ⊗ m) room.one room.one (square _ r) (square _ g)

  pub three_small : From0 ((x.r ⊖ y.r) ⊗ (x.r ⊖ y.r) ⊕ (x.g ⊖ y.g) ⊗ (x.g ⊖ y.g) ⊕ (x.b ⊖ y.b) ⊗ (x.b ⊖ y.b)) (most3 m)
  three_small = add_small _ _ (most2 m) (m ⊗ m) room.two room.one two_small (square _ b)

  pub squares_small : From0 (squares_of x y) (most4 m)
  unfolding squares_of
  squares_small = add_small _ _ (most3 m) (m ⊗ m) room.three room.one three_small (square _ a)

-- ---- half the root
pub half_mono : (x y : Float) → T (finite x) → T (finite y) → T (le x y) → T (le (x ⊘ f2) (y ⊘ f2))
half_mono x y fx fy h = rounds_le (half_rounds x fx) (half_rounds y fy) (mul-pos (lit< tt) (den_pos x)) (mul-pos (lit< tt) (den_pos y)) (omega (arith, linear_from_le x y fx fy h))

module _ (s most : Float) (single : T (fits binary32 s)) (single' : T (fits binary32 most)) (w : From0 s most) (whole : T (finite (root_of most))) where
  pub root_from0 : From0 (root_of s) (root_of most)
  root_from0 =
      record {
        low = order.le_trans f0 (root_of f0) (root_of s) zero_facts.6 (root_keeps_order f0 s (of_bits-fits binary32 0) single zero_facts.1 w.low);
        high = root_keeps_order s most single single' w.low w.high;
      }

  pub half_root : T (le (root_of s ⊘ f2) (root_of most ⊘ f2))
  half_root = half_mono (root_of s) (root_of most) (from0_finite whole root_from0) whole root_from0.high
