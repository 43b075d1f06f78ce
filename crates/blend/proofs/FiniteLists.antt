-- A list of finite numbers, number by number. Assumes nothing.
use mathlib.Core.Path.{◌≡◌, ap, refl}
use mathlib.Core.Bool.{true, ◌&&◌}
use mathlib.Core.List.{List, [], ◌∷◌}
use Prim.Native.Nat.{ℕ, zero, suc, ◌<◌}
use native.Mathlib.Omega.{arith}
use lib.ListN.{length, get_or}
use lib.Ieee.{Float, nan}
use lib.Ieee.Scale.{finite}
use Rattle.std.specs.List.{list_all}
use Rattle.float.proofs.Flags.{both_l, both_r}
use Rattle.blend.specs.Finite.{all_finite}

-- any number of such a list
pub finite_each : (xs : List Float) → all_finite xs ≡ true → (i : ℕ) → i < length xs → finite (get_or xs i nan) ≡ true
unfolding all_finite
finite_each [] h i l = absurd (omega arith)
finite_each (x ∷ xs) h zero l = both_l (finite x) (all_finite xs) h
finite_each (x ∷ xs) h (suc i) l = finite_each xs (both_r (finite x) (all_finite xs) h) i (omega arith)

-- the same as a test of each
pub list_all_is : (xs : List Float) → list_all finite xs ≡ all_finite xs
unfolding all_finite
list_all_is [] = refl
list_all_is (x ∷ xs) = ap (λ b. finite x && b) (list_all_is xs)
