-- There is one nearest f32 at most (`is_root_unique`), so `IsRoot` is another way to say `root_of`; and `root_of` keeps the order (`root_keeps_order`). Assumes nothing.
use mathlib.Core.Path.{◌≡◌, refl, sym, ◌∙◌}
use Prim.Native.Nat.{ℕ, zero, suc, ◌+◌, ◌*◌, ◌^◌, ◌≤◌, ◌<◌}
use native.Mathlib.Nat.{le_refl, le_antisymm, lt_of_not-le, mul-le-mul_right, mul-pos, zero-lt-suc}
use native.Mathlib.Decide.{dec_le}
use native.Mathlib.Omega.{arith}
use mathlib.Core.Bool.{true, false, true≢false}
use lib.Dec.{T}
use lib.IntN.{ℤ}
use lib.Ieee.{Float, nan, inf, fin, up, down, binary32, fits, of_bits, is_nan, le, lt, eq}
use lib.Ieee.Fits.{down_pos, up_pos}
use borrow.Author.Tests.{lt-ltb}
use Rattle.float.specs.F32.{f0}
use Rattle.float.specs.Units.{count, plain}
use Rattle.float.proofs.Order as floats
use Rattle.float.proofs.Order.{le_from_not_lt, not_lt_from_le}
use Rattle.float.proofs.Units.{count_known}
use Rattle.float.proofs.UnitsOrder.{le_from_counts, counts_from_le, le_infinity, plain_number}
use Rattle.sqrt.specs.Root.{root_of}
use Rattle.sqrt.specs.Nearest.{IsRoot}
use Rattle.sqrt.proofs.Nearest.{root_of_is_root}

-- ---- of two numbers, the root of the smaller is no larger, in units

counts_mono : (x y r s : Float) → IsRoot x r → IsRoot y s → count x ≤ count y → count r ≤ count s
counts_mono x y r s h k l = go (dec_le (count r) (count s))
  where
    go : Dec (count r ≤ count s) → count r ≤ count s
    go (yes e) = e
    go (no f) =
        let g : count s < count r = lt_of_not-le f in
        let a : (count s + count r) * (count s + count r) < 4 * (count x * 2 ^ 149) = h.over s k.is.0 k.is.1 g in
        let b : 4 * (count y * 2 ^ 149) < (count r + count s) * (count r + count s) = k.under r h.is.0 h.is.1 g in
        let c : count x * 2 ^ 149 ≤ count y * 2 ^ 149 = mul-le-mul_right (2 ^ 149) l in
        absurd (clash (count r) (count s) (count x * 2 ^ 149) (count y * 2 ^ 149) a b c)
      where
        clash : (r s v w : ℕ) → (s + r) * (s + r) < 4 * v → 4 * w < (r + s) * (r + s) → v ≤ w → ⊥
        clash r s v w a b c = omega arith

pub is_root_unique : (x r s : Float) → IsRoot x r → IsRoot x s → r ≡ s
is_root_unique x r s h k =
    count_known r s h.is.0 h.is.1 k.is.0 k.is.1
    (le_antisymm (counts_mono x x r s h k (le_refl (count x))) (counts_mono x x s r k h (le_refl (count x))))

-- so what is nearest to the root of x is `root_of x`
pub root_of_from_is_root : (x r : Float) → IsRoot x r → r ≡ root_of x
root_of_from_is_root x r h = is_root_unique x r (root_of x) h (root_of_is_root x h.of.0 h.of.1)

pub root_of_mono : (x y : Float) → T (fits binary32 x) → T (plain x) → T (fits binary32 y) → T (plain y) → T (le x y) → T (le (root_of x) (root_of y))
root_of_mono x y t p u q h =
    let r = root_of_is_root x t p in
    let s = root_of_is_root y u q in
    le_from_counts (root_of x) (root_of y) r.is.0 r.is.1 s.is.0 s.is.1 (counts_mono x y (root_of x) (root_of y) r s (counts_from_le x y t p u q h))

-- ---- and on every f32 that is not below zero, -0 and the infinity among them

nothing_below : (m : ℕ) (e : ℤ) → T (le f0 (fin true (suc m) e)) → ⊥
unfolding lt of_bits
nothing_below m e h = true≢false (sym (lt-ltb 0 (suc m * up e * 1 + 0 * 1 * down e) (some (suc m * up e) (0 * 1 * down e) (mul-pos (zero-lt-suc m) (up_pos e)))) ∙ not_lt_from_le (fin true (suc m) e) f0 h)
  where
    some : (a b : ℕ) → 0 < a → 0 < a * 1 + b
    some a b h = omega arith

nothing_above : (m : ℕ) (e d : ℤ) → T (le (fin false (suc m) e) (fin true zero d)) → ⊥
unfolding lt
nothing_above m e d h = true≢false (sym (lt-ltb 0 (0 * up d * down e + suc m * up e * down d) (some (0 * up d * down e) (suc m * up e * down d) (mul-pos (mul-pos (zero-lt-suc m) (up_pos e)) (down_pos d)))) ∙ not_lt_from_le (fin true zero d) (fin false (suc m) e) h)
  where
    some : (a b : ℕ) → 0 < b → 0 < a + b
    some a b h = omega arith

-- a zero with its sign set is no more than a plain number
minus_zero-le : (e : ℤ) (x : Float) → T (plain x) → T (le (fin true zero e) x)
unfolding is_nan lt
minus_zero-le e nan p = absurd p
minus_zero-le e (inf s) p = absurd p
minus_zero-le e (fin true m d) p = absurd p
minus_zero-le e (fin false m d) p = le_from_not_lt (fin false m d) (fin true zero e) refl refl refl

pub root_keeps_order : (x y : Float) → T (fits binary32 x) → T (fits binary32 y) → T (le f0 x) → T (le x y) → T (le (root_of x) (root_of y))
unfolding root_of le lt eq of_bits
root_keeps_order nan y t u z h = absurd z
root_keeps_order (inf true) y t u z h = absurd z
root_keeps_order (inf false) nan t u z h = absurd h
root_keeps_order (inf false) (inf true) t u z h = absurd h
root_keeps_order (inf false) (inf false) t u z h = tt
root_keeps_order (inf false) (fin s n d) t u z h = absurd h
root_keeps_order (fin true (suc m) e) y t u z h = absurd (nothing_below m e z)
root_keeps_order (fin true zero e) nan t u z h = absurd h
root_keeps_order (fin true zero e) (inf true) t u z h = absurd h
root_keeps_order (fin true zero e) (inf false) t u z h = tt
root_keeps_order (fin true zero e) (fin true zero d) t u z h = h
root_keeps_order (fin true zero e) (fin true (suc n) d) t u z h = absurd (nothing_below n d (floats.le_trans f0 (fin true zero e) (fin true (suc n) d) z h))
root_keeps_order (fin true zero e) (fin false n d) t u z h = minus_zero-le e (root_of (fin false n d)) (root_of_is_root (fin false n d) u tt).is.1
root_keeps_order (fin false m e) nan t u z h = absurd h
root_keeps_order (fin false m e) (inf true) t u z h = absurd h
root_keeps_order (fin false m e) (inf false) t u z h = le_infinity (root_of (fin false m e)) (plain_number (root_of (fin false m e)) (root_of_is_root (fin false m e) t tt).is.1)
root_keeps_order (fin false zero e) (fin true zero d) t u z h = h
root_keeps_order (fin false (suc m) e) (fin true zero d) t u z h = absurd (nothing_above m e d h)
root_keeps_order (fin false m e) (fin true (suc n) d) t u z h = absurd (nothing_below n d (floats.le_trans f0 (fin false m e) (fin true (suc n) d) z h))
root_keeps_order (fin false m e) (fin false n d) t u z h = root_of_mono (fin false m e) (fin false n d) t tt u tt h
