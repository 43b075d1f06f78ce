-- The factor by the tests that the code makes, and the quotient of two depths. Assumes nothing.
use mathlib.Core.Path.{◌≡◌, sym, ap, ◌∙◌, subst}
use mathlib.Core.Bool.{true, false, not}
use Prim.Native.Nat.{◌<◌}
use native.Mathlib.Omega.{arith}
use lib.Dec.{T}
use lib.IntN.{ℤ, nat_abs}
use lib.Signed.{non_neg}
use lib.Ieee.{Float, nan, binary32, fits, is_nan, le, lt, ne}
use lib.Ieee.Scale.{finite}
use mir.Syntax.{w32}
use mir.Val.{Fits}
use Rattle.float.specs.F32.{◌⊘◌, f0, f1}
use Rattle.float.specs.Number.{whole_of}
use Rattle.float.proofs.Order.{lt_is, ne_self, le_trans}
use Rattle.float.proofs.SignedRound.{pro}
use Rattle.float.proofs.Spans.{quotient_low}
use Rattle.float.proofs.Quotients.{some_more}
use Rattle.float.proofs.Chains.{Chain, first_finite}
use Rattle.curve.specs.Depth.{depth_of}
use Rattle.curve.specs.Factor.{bottom, fall_of, factor_at, factor_of}
use Rattle.curve.proofs.Closed.{zero_number, one_number}
use Rattle.curve.proofs.Sums.{last, least, least_some, part_falls}
use Rattle.curve.proofs.Inside.{Inside, inside}
use Rattle.curve.proofs.Deeper.{depth_least}
use Rattle.curve.proofs.Falling.{stepped}

-- ---- the whole part of what is below the bottom
pub few_steps : (r : Float) {z : ℤ} → T (le f0 r) → le bottom r ≡ false → z ≡ whole_of r → T (non_neg z) × Fits w32 (nat_abs z) × (nat_abs z < 32)
few_steps r {z} h n e =
    let w = stepped r h n in
    let l = w.1.few in
    subst (λ (y : ℤ). T (non_neg y) × Fits w32 (nat_abs y) × (nat_abs y < 32)) (sym (e ∙ w.1.is)) (tt, record { fits = omega arith }, l)

-- ---- the depth of a number strictly between 0 and 1 is above zero
module _ (x : Float) (i : Inside x) where
  least_row : Chain least least f1
  least_row = part_falls last last (omega arith) (omega arith) (omega arith)

  pub depth_finite : T (finite (depth_of x))
  depth_finite = (depth_least x i).1

  pub depth_low : T (le f0 (depth_of x))
  depth_low = le_trans f0 least (depth_of x) least_row.low (depth_least x i).0

  pub depth_some : 0 < pro (depth_of x)
  depth_some = some_more least (depth_of x) (first_finite least_row) depth_finite least_row.low least_some (depth_least x i).0

pub ratio_low : (x y : Float) → Inside x → Inside y → T (le f0 (depth_of x ⊘ depth_of y))
ratio_low x y i j = quotient_low (depth_of x) (depth_of y) (depth_finite x i) (depth_finite y j) (depth_some y j) (depth_low x i)

-- ---- what the three tests of a number leave
pub number : (x : Float) → ne x x ≡ false → is_nan x ≡ false
number x h = sym (ne_self x) ∙ h

module _ (x : Float) (n : is_nan x ≡ false) (a : le x f0 ≡ false) (b : le f1 x ≡ false) where
  pub over_zero : T (lt f0 x)
  over_zero = subst T (sym (lt_is f0 x zero_number n ∙ ap not a)) tt

  pub under_one : T (lt x f1)
  under_one = subst T (sym (lt_is x f1 n one_number ∙ ap not b)) tt

  pub between : T (fits binary32 x) → Inside x
  between f = inside x f over_zero under_one

-- ---- the factor
module _ (p m : Float) where
  pub place_nan : is_nan p ≡ true → nan ≡ factor_of p m
  unfolding factor_of
  place_nan h = rw h

  module _ (n : is_nan p ≡ false) where
    pub place_low : le p f0 ≡ true → f0 ≡ factor_of p m
    unfolding factor_of
    place_low h = rw (n, h)

    module _ (a : le p f0 ≡ false) where
      pub place_high : le f1 p ≡ true → f1 ≡ factor_of p m
      unfolding factor_of
      place_high h = rw (n, a, h)

      module _ (b : le f1 p ≡ false) where
        pub middle_nan : is_nan m ≡ true → nan ≡ factor_of p m
        unfolding factor_of factor_at
        middle_nan h = rw (n, a, b, h)

        module _ (k : is_nan m ≡ false) where
          pub middle_low : le m f0 ≡ true → f1 ≡ factor_of p m
          unfolding factor_of factor_at
          middle_low h = rw (n, a, b, k, h)

          pub middle_high : le m f0 ≡ false → le f1 m ≡ true → f0 ≡ factor_of p m
          unfolding factor_of factor_at
          middle_high c h = rw (n, a, b, k, c, h)

          pub middle_inside : le m f0 ≡ false → le f1 m ≡ false → fall_of (depth_of p ⊘ depth_of m) ≡ factor_of p m
          unfolding factor_of factor_at
          middle_inside c d = rw (n, a, b, k, c, d)
