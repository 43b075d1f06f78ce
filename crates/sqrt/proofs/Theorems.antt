-- What is known of the root and of the cutoff beyond what their functions ensure: the laws to cite. Assumes nothing.
use mathlib.Core.Path.{◌≡◌, refl}
use mathlib.Core.Bool.{true, false}
use Prim.Native.Nat.{ℕ, zero, suc, ◌+◌, ◌*◌, ◌<◌}
use native.Mathlib.Nat.{zero-mul}
use native.Mathlib.Omega.{arith}
use lib.Dec.{T, ltb→lt}
use lib.Ieee.{Float, nan, inf, fin, up, down, binary32, fits, le, lt, of_bits}
use Rattle.float.specs.F32.{f0}
use Rattle.float.specs.Units.{plain}
use Rattle.sqrt.specs.Root.{root_of}
use Rattle.sqrt.specs.Nearest.{IsRoot}
use Rattle.sqrt.specs.Cutoff.{IsCutoff}
use Rattle.sqrt.proofs.Nearest as nearest
use Rattle.sqrt.proofs.Order as order
use Rattle.sqrt.proofs.Threshold as threshold

-- of every finite f32 with the sign clear, it is the nearest f32 to the root
pub root_is_nearest : (x : Float) → T (fits binary32 x) → T (plain x) → IsRoot x (root_of x)
root_is_nearest = nearest.root_of_is_root

-- and nothing else is
pub root_is_only : (x r : Float) → IsRoot x r → r ≡ root_of x
root_is_only = order.root_of_from_is_root

-- the others: -0, the infinity and not-a-number give themselves, and what is below zero gives not-a-number
pub root_of_others : (root_of (of_bits binary32 0x8000_0000) ≡ of_bits binary32 0x8000_0000) × (root_of (inf false) ≡ inf false) × (root_of nan ≡ nan)
unfolding root_of of_bits
root_of_others = (refl, refl, refl)

pub root_below_zero : (x : Float) → T (lt x f0) → root_of x ≡ nan
unfolding root_of lt of_bits
root_below_zero nan h = absurd h
root_below_zero (inf true) h = refl
root_below_zero (inf false) h = absurd h
root_below_zero (fin true zero e) h = absurd (none (up e) (down e) (ltb→lt 0 (0 * up e * 1 + 0 * 1 * down e) h))
  where
    none : (a b : ℕ) → 0 < 0 * a * 1 + 0 * 1 * b → ⊥
    none a b h = omega (arith, zero-mul a, zero-mul b)
root_below_zero (fin true (suc m) e) h = refl
root_below_zero (fin false m e) h = absurd (none (m * up e * 1) (down e) (ltb→lt (m * up e * 1) (0 * 1 * down e) h))
  where
    none : (a b : ℕ) → a < 0 * 1 * b → ⊥
    none a b h = omega (arith, zero-mul b)

-- it keeps the order of every f32 that is not below zero: of -0 and the infinity too
pub root_keeps_order : (x y : Float) → T (fits binary32 x) → T (fits binary32 y) → T (le f0 x) → T (le x y) → T (le (root_of x) (root_of y))
root_keeps_order = order.root_keeps_order

-- any two answers that `cutoff` may give are equal
pub cutoff_unique : (t q r : Float) → IsCutoff t q → IsCutoff t r → q ≡ r
cutoff_unique = threshold.cutoff_unique
