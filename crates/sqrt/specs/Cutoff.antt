-- The test that the samplers make, half the root of s above t, and what a cutoff for it is. Definitions only.
use Rattle.std.specs.Prelude.{◌≡◌, Bool, false, T, Float}
use Rattle.std.specs.Float.{binary32}
use Rattle.std.specs.Float.Ieee.{fits, is_nan, lt, of_bits}
use Rattle.float.specs.F32.{◌⊘◌, f2}
use Rattle.sqrt.specs.Root.{root_of}

-- x / 2, rounded
abbrev pub halved : Float → Float
halved x = x ⊘ f2

-- half the root of s is above t
abbrev pub above : Float → Float → Bool
above t s = lt t (halved (root_of s))

-- r is the f32 such that every f32 s is above it exactly when half the root of s is above t. It is no NaN and not -0, and so there is only one (`cutoff_unique`).
pub record IsCutoff (t r : Float) : Type 0 where
  pub cuts : (s : Float) → T (fits binary32 s) → above t s ≡ lt r s
  pub holds : T (fits binary32 r)
  pub number : is_nan r ≡ false
  pub unsigned : r ≡ of_bits binary32 0x8000_0000 → ⊥
