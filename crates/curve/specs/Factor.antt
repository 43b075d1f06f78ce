-- The factor of a curved segment: 0 at place 0, 1/2 at the middle, 1 at place 1. It is one half to the power depth(place) / depth(middle).
use Rattle.std.specs.Prelude.{ℕ, ◌-◌, ◌*◌, ◌^◌, ◌≡◌, false, cond, nat_abs, T, Float}
use Rattle.std.specs.Float.{nan, binary32}
use Rattle.std.specs.Float.Ieee.{fits, of_bits, is_nan, le, lt}
use Rattle.float.specs.F32.{◌⊕◌, ◌⊖◌, ◌⊗◌, ◌⊘◌, f0, f1, half}
use Rattle.float.specs.Number.{count_of, whole_of}
use Rattle.curve.specs.Depth.{depth_of, Split}

-- 0.69315, 0.24016, 0.05584, 0.00895, 0.0019
abbrev pub b1 : Float
b1 = of_bits binary32 0x3f31_7247

abbrev pub b2 : Float
b2 = of_bits binary32 0x3e75_ec81

abbrev pub b3 : Float
b3 = of_bits binary32 0x3d64_b87c

abbrev pub b4 : Float
b4 = of_bits binary32 0x3c12_a305

abbrev pub b5 : Float
b5 = of_bits binary32 0x3af9_096c

-- 2 to the power u, for u from 0 to 1: 1 + u·(0.69315 + u·(0.24016 + u·(0.05584 + u·(0.00895 + u·0.0019))))
unfoldable pub power_of : Float → Float
power_of u = f1 ⊕ u ⊗ (b1 ⊕ u ⊗ (b2 ⊕ u ⊗ (b3 ⊕ u ⊗ (b4 ⊕ u ⊗ b5))))

-- j is the whole part of r, and u = 1 - (r - j): 2^-(1+j)·2^u
unfoldable pub lowered_of : Float → ℕ → Float
lowered_of r j = of_bits binary32 ((126 - j) * 2 ^ 23) ⊗ power_of (f1 ⊖ (r ⊖ count_of j))

-- 32
abbrev pub bottom : Float
bottom = of_bits binary32 0x4200_0000

-- one half to the power r, for r from 0 on; from 32 on it is 0
unfoldable pub fall_of : Float → Float
fall_of r = cond (le bottom r) f0 (lowered_of r (nat_abs (whole_of r)))

-- at a place strictly between 0 and 1. A middle at or before 0 is passed at once, and one at or after 1 never; not-a-number stays so.
unfoldable pub factor_at : Float → Float → Float
factor_at place middle = cond (is_nan middle) nan (cond (le middle f0) f1 (cond (le f1 middle) f0 (fall_of (depth_of place ⊘ depth_of middle))))

-- 0 up to place 0, 1 from place 1 on; not-a-number stays so
unfoldable pub factor_of : Float → Float → Float
factor_of place middle = cond (is_nan place) nan (cond (le place f0) f0 (cond (le f1 place) f1 (factor_at place middle)))

-- What is proved of these definitions (`factor_laws`, in proofs/Rising). The places and the middle are f32s.
pub record FactorLaws : Type 0 where
  -- a number strictly between 0 and 1 is m·2^-k, and its depth k and the part of m; one halving leads from 1 to 1/2
  pub split : (x : Float) → T (fits binary32 x) → T (lt f0 x) → T (lt x f1) → Split x
  pub half_deep : depth_of half ≡ f1
  -- the factor lies from 0 to 1
  pub factor_within : (place middle : Float) → T (fits binary32 place) → T (fits binary32 middle) → is_nan place ≡ false → is_nan middle ≡ false
      → T (le f0 (factor_of place middle)) × T (le (factor_of place middle) f1)
  -- it never falls as the place grows
  pub factor_rising : (place next middle : Float) → T (fits binary32 place) → T (fits binary32 next) → T (fits binary32 middle) → is_nan middle ≡ false
      → T (le place next) → T (le (factor_of place middle) (factor_of next middle))
  -- it is 0 at 0, 1 at 1, and exactly 1/2 at a middle that is inside
  pub factor_starts : (middle : Float) → factor_of f0 middle ≡ f0
  pub factor_ends : (middle : Float) → factor_of f1 middle ≡ f1
  pub factor_middle : (middle : Float) → T (fits binary32 middle) → T (lt f0 middle) → T (lt middle f1) → factor_of middle middle ≡ half
