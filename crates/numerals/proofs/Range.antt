-- Which numbers can be written, by the tests of the code. Assumes nothing.
use mathlib.Core.Path.{◌≡◌, refl, sym, ap, ◌∙◌}
use mathlib.Core.Bool.{Bool, true, false, true≢false, not}
use Prim.Native.Nat.{ℕ, zero, suc, ◌*◌, ◌≤◌, ◌<◌}
use native.Mathlib.Nat.{le_trans, le_of_eq, mul-one, zero-mul}
use native.Mathlib.Omega.{arith}
use lib.Dec.{ltb}
use lib.Ieee.Fits.{down_pos}
use lib.Ieee.{Float, nan, inf, fin, binary32, up, down, lt, ne, of_bits}
use lib.Ieee.Compare.{nan_differs}
use borrow.Author.Tests.{ltb-true, ltb-false}
use Rattle.float.specs.Number.{magnitude_of}
use Rattle.float.proofs.Patterns.{is_nan_lem}
use Rattle.numerals.specs.Written.{in_range, writable}
use Rattle.numerals.proofs.Above.{low_out, high_out, all_in}
use Rattle.numerals.proofs.Signs.{zero_over, up_over, some_up}

abbrev least : Float
least = of_bits binary32 0x358637bd

abbrev most : Float
most = of_bits binary32 0x49742400

pub writes_nan : (x : Float) → ne x x ≡ true → false ≡ writable x
unfolding writable
writes_nan x h = sym (ap writable (is_nan_lem x h))

-- below 1e-6: only zero
small : (x : Float) → lt (magnitude_of x) least ≡ true → not (lt (of_bits binary32 0) (magnitude_of x)) ≡ writable x
unfolding magnitude_of lt of_bits writable
small nan h = absurd (true≢false (sym h))
small (inf s) h = absurd (true≢false (sym h))
small (fin s zero e) h = go _ refl
  where
    go : (b : Bool) → ltb (0 * down e) (0 * up e * 1) ≡ b → not b ≡ true
    go true h = absurd (zero_over e (down e) (ltb-true _ _ h))
    go false h = refl
small (fin s (suc m) e) h = go _ refl ∙ sym (low_out (suc m * up e) (down e) (ltb-true _ _ h))
  where
    go : (b : Bool) → ltb (0 * down e) (suc m * up e * 1) ≡ b → not b ≡ false
    go true h = refl
    go false h = absurd (up_over (suc m * up e) (down e) (some_up m e) (ltb-false _ _ h))

-- from 1e-6 on: up to 1e6
large : (x : Float) → ne x x ≡ false → lt (magnitude_of x) least ≡ false → not (lt most (magnitude_of x)) ≡ writable x
unfolding magnitude_of lt of_bits writable
large nan n h = absurd (true≢false (sym nan_differs ∙ n))
large (inf s) n h = refl
large (fin s zero e) n h = absurd (up_least (down e) (down_pos e) (ltb-false _ _ h))
  where
    up_least : (d : ℕ) → 0 < d → 8796093 * d ≤ 0 * up e * 8796093022208 → ⊥
    up_least d p l = omega (arith, zero-mul (up e))
large (fin s (suc m) e) n h = go _ refl
  where
    go : (b : Bool) → ltb (1000000 * down e) (suc m * up e * 1) ≡ b → not b ≡ in_range (suc m * up e) (down e)
    go true l = sym (high_out (suc m * up e) (down e) (le_trans (ltb-true _ _ l) (le_of_eq (mul-one (suc m * up e)))))
    go false l = sym (all_in (suc m * up e) (down e) (ltb-false _ _ h) (le_trans (le_of_eq (sym (mul-one (suc m * up e)))) (ltb-false _ _ l)))

pub writes_small : (x y : Float) → y ≡ magnitude_of x → lt y least ≡ true → not (lt (of_bits binary32 0) y) ≡ writable x
writes_small x y e h = ap (λ (z : Float). not (lt (of_bits binary32 0) z)) e ∙ small x (ap (λ (z : Float). lt z least) (sym e) ∙ h)

pub writes_large : (x y : Float) → ne x x ≡ false → y ≡ magnitude_of x → lt y least ≡ false → not (lt most y) ≡ writable x
writes_large x y n e h = ap (λ (z : Float). not (lt most z)) e ∙ large x n (ap (λ (z : Float). lt z least) (sym e) ∙ h)
