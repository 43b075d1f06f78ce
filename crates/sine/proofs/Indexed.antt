-- A whole part as an index of the table, by the tests that the code makes. Assumes nothing.
use mathlib.Core.Path.{◌≡◌, refl, ap, ◌∙◌}
use Prim.Native.Nat.{◌≤◌}
use native.Mathlib.Omega.{arith}
use mathlib.Core.Bool.{true, false, true≢false}
use lib.Dec.{T}
use lib.IntN.{ℤ, pos, negsuc, nat_abs}
use lib.Ieee.{Float}
use lib.Signed.{lt_z, non_neg}
use mir.Syntax.{w64}
use mir.Val.{Fits}
use borrow.Author.Tests.{ltb-true, ltb-false}
use Rattle.float.specs.Number.{whole_of}
use Rattle.sine.specs.Wave.{indexed, index_of}

none : (z : ℤ) → lt_z z (pos 0) ≡ true → 0 ≡ indexed z
unfolding indexed
none (pos n) h = let k = ltb-true n 0 h in omega arith
none (negsuc n) h = refl

same : (z : ℤ) → lt_z z (pos 0) ≡ false → lt_z z (pos 1024) ≡ true → nat_abs z ≡ indexed z
unfolding indexed
same (pos n) h k = let l = ltb-true n 1024 k in omega arith
same (negsuc n) h k = absurd (true≢false h)

most : (z : ℤ) → lt_z z (pos 1024) ≡ false → 1024 ≡ indexed z
unfolding indexed
most (pos n) h = let l = ltb-false n 1024 h in omega arith
most (negsuc n) h = absurd (true≢false h)

module _ (x : Float) {z : ℤ} (e : z ≡ whole_of x) where
  pub index_none : lt_z z (pos 0) ≡ true → 0 ≡ index_of x
  index_none h = none z h ∙ ap indexed e

  pub index_same : lt_z z (pos 0) ≡ false → lt_z z (pos 1024) ≡ true → nat_abs z ≡ index_of x
  index_same h k = same z h k ∙ ap indexed e

  pub index_most : lt_z z (pos 1024) ≡ false → 1024 ≡ index_of x
  index_most h = most z h ∙ ap indexed e

-- an index below 1,024 fits
pub index_fits : (z : ℤ) → lt_z z (pos 0) ≡ false → lt_z z (pos 1024) ≡ true → T (non_neg z) × Fits w64 (nat_abs z)
index_fits (pos n) h k = let l = ltb-true n 1024 k in (tt, record { fits = omega arith })
index_fits (negsuc n) h k = absurd (true≢false h)

pub index_few : (z : ℤ) → indexed z ≤ 1024
unfolding indexed
index_few (pos n) = omega arith
index_few (negsuc n) = omega arith
