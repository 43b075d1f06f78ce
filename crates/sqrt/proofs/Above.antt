-- Where half the root of s is above t, half the root of all that is above s is: halves and roots keep the order. Assumes nothing.
use mathlib.Core.Path.{◌≡◌, refl, sym, subst}
use mathlib.Core.Logic.{inl, inr}
use Prim.Native.Nat.{ℕ, ◌*◌, ◌≤◌, zero-le}
use native.Mathlib.Nat.{le_refl, eq-or-lt_of_le, mul-pos}
use native.Mathlib.Omega.{arith}
use mathlib.Core.Bool.{Bool, true, false, not}
use lib.Dec.{T}
use lib.IntN.{ℤ}
use lib.Ieee.{Float, nan, inf, fin, up, down, binary32, fits, round, of_bits, le, lt, eq, div}
use lib.Ieee.Bits.{of_bits-fits}
use lib.Ieee.Fits.{down_pos}
use lib.Ieee.Order.{round_mono}
use Rattle.float.proofs.Order.{lt-le_trans, no_nan_l}
use Rattle.sqrt.specs.Root.{root_of}
use Rattle.sqrt.specs.Cutoff.{halved, above}
use Rattle.float.specs.Units.{plain}
use Rattle.float.proofs.UnitsOrder.{at_most, le_infinity}
use Rattle.float.proofs.PatternOrder.{at, at_top, pattern_le, plain_at}
use Rattle.sqrt.proofs.Nearest.{root_of_is_root}
use Rattle.sqrt.proofs.Order.{root_keeps_order}

-- ---- halves keep the order of what has its sign clear

abbrev pub clear : Float → Bool
clear nan = false
clear (inf s) = not s
clear (fin s m e) = not s

halved_is : (m : ℕ) (e : ℤ) → halved (fin false m e) ≡ round binary32 false (m * up e * 1) (2 * down e)
unfolding div of_bits
halved_is m e = refl

halved_infinity : halved (inf false) ≡ inf false
unfolding div of_bits
halved_infinity = refl

halved_fin : (m n : ℕ) (e d : ℤ) → m * up e * down d ≤ n * up d * down e → T (le (halved (fin false m e)) (halved (fin false n d)))
halved_fin m n e d h =
    subst (λ (x : Float). T (le x (halved (fin false n d)))) (sym (halved_is m e))
    (subst (λ (y : Float). T (le (round binary32 false (m * up e * 1) (2 * down e)) y)) (sym (halved_is n d))
    (round_mono binary32 (m * up e * 1) (2 * down e) (n * up d * 1) (2 * down d) (mul-pos (omega arith) (down_pos e)) (mul-pos (omega arith) (down_pos d)) (doubled (m * up e) (n * up d) (down e) (down d) h)))
  where
    doubled : (a b c d : ℕ) → a * d ≤ b * c → a * 1 * (2 * d) ≤ b * 1 * (2 * c)
    doubled a b c d h = omega arith

halved_mono : (x y : Float) → T (clear x) → T (clear y) → T (le x y) → T (le (halved x) (halved y))
unfolding le lt eq
halved_mono nan y p q h = absurd p
halved_mono (inf true) y p q h = absurd p
halved_mono (inf false) nan p q h = absurd q
halved_mono (inf false) (inf true) p q h = absurd q
halved_mono (inf false) (inf false) p q h = subst (λ (x : Float). T (le x x)) (sym halved_infinity) tt
halved_mono (inf false) (fin s n d) p q h = absurd h
halved_mono (fin true m e) y p q h = absurd p
halved_mono (fin false m e) nan p q h = absurd q
halved_mono (fin false m e) (inf true) p q h = absurd q
halved_mono (fin false m e) (inf false) p q h =
    subst (λ (y : Float). T (le (halved (fin false m e)) y)) (sym halved_infinity)
    (le_infinity (halved (fin false m e)) (no_nan_l (halved (fin false m e)) (halved (fin false m e)) (halved_fin m m e e (le_refl (m * up e * down e)))))
halved_mono (fin false m e) (fin true n d) p q h = absurd q
halved_mono (fin false m e) (fin false n d) p q h = halved_fin m n e d (at_most (m * up e * down d) (n * up d * down e) h)

-- ---- the test holds of all that is above

plain-clear : (x : Float) → T (plain x) → T (clear x)
plain-clear nan p = absurd p
plain-clear (inf s) p = absurd p
plain-clear (fin true m e) p = absurd p
plain-clear (fin false m e) p = tt

root_clear : (x : Float) → T (fits binary32 x) → T (clear x) → T (clear (root_of x))
unfolding root_of
root_clear nan f p = absurd p
root_clear (inf true) f p = absurd p
root_clear (inf false) f p = tt
root_clear (fin true m e) f p = absurd p
root_clear (fin false m e) f p = plain-clear (root_of (fin false m e)) (root_of_is_root (fin false m e) f tt).is.1

pub clear_at : (b : ℕ) → b ≤ 2139095040 → T (clear (at b))
clear_at b l = elim (eq-or-lt_of_le l) [ inl e ↦ subst (λ (k : ℕ). T (clear (at k))) (sym e) (subst (λ (x : Float). T (clear x)) (sym at_top) tt) | inr k ↦ plain-clear (at b) (plain_at b k) ]

pub above_mono : (t : Float) (b c : ℕ) → b ≤ c → c ≤ 2139095040 → T (above t (at b)) → T (above t (at c))
above_mono t b c h l a =
    let bl : b ≤ 2139095040 = omega arith in
    let fb = of_bits-fits binary32 b in
    let fc = of_bits-fits binary32 c in
    lt-le_trans t (halved (root_of (at b))) (halved (root_of (at c))) a
    (halved_mono (root_of (at b)) (root_of (at c)) (root_clear (at b) fb (clear_at b bl)) (root_clear (at c) fc (clear_at c l)) (root_keeps_order (at b) (at c) fb fc (pattern_le 0 b zero-le bl) (pattern_le b c h l)))
