-- The positions of a list that is written: each f32 lies within 1e6 of zero, and the half-way point of two neighbours lies between them. Assumes nothing.
use mathlib.Core.Path.{◌≡◌, refl, sym, ap, ◌∙◌, subst}
use mathlib.Core.Bool.{Bool, true, false, true≢false, not, ◌&&◌}
use mathlib.Core.List.{List, [], ◌∷◌}
use Prim.Native.Nat.{ℕ, zero, suc, ◌+◌, ◌*◌, ◌^◌, ◌≤◌, ◌<◌}
use native.Mathlib.Nat.{lt_irrefl, mul-one, le_of_eq, lt_of_le_of_lt, lt_of_lt_of_le, mul-lt-mul_of_pos_right, le_of_suc-le-suc, not-suc-le-zero, mul-pos, zero-mul, one-mul}
use native.Mathlib.Numerals.{add-one}
use native.Mathlib.Omega.{arith}
use lib.Dec.{T, leb, lt→ltb, lit<}
use lib.ListN.{length, get_or}
use lib.IntN.{ℤ}
use lib.Ieee.{Float, nan, inf, fin, binary32, up, down, lt, le, neg, is_nan, fits, of_bits}
use lib.Ieee.Fits.{down_pos}
use borrow.Author.Tests.{leb-true}
use Rattle.float.specs.F32.{◌⊕◌, ◌⊘◌, f2}
use Rattle.float.specs.Number.{top, Within}
use Rattle.float.proofs.Flags.{both_l, both_r}
use Rattle.float.proofs.Order as order
use Rattle.float.proofs.Midpoint.{mid_le, lt_mid}
use Rattle.numerals.specs.Written.{in_range, writable}
use Rattle.ggr_writing.specs.File.{rises}

-- ---- a number that can be written is no NaN, and small
pub writable_number : (x : Float) → writable x ≡ true → is_nan x ≡ false
unfolding writable is_nan
writable_number nan h = sym h
writable_number (inf s) h = refl
writable_number (fin s m e) h = refl

-- B stands for 2 ^ 127
small : (x d b : ℕ) → 1000000 < b → 0 < d → x ≤ 1000000 * d → x * 1 < 1 * b * d
small x d b l p h = lt_of_le_of_lt (le_of_eq (mul-one x)) (lt_of_le_of_lt h (lt_of_lt_of_le (mul-lt-mul_of_pos_right l p) (le_of_eq (ap (λ (y : ℕ). y * d) (sym (one-mul b))))))

size : (s : Bool) (m : ℕ) (e : ℤ) → writable (fin s m e) ≡ true → m * up e ≤ 1000000 * down e
unfolding writable in_range
size s zero e h = omega (arith, zero-mul (up e))
size s (suc m) e h = leb-true (suc m * up e) (1000000 * down e) (both_r (leb (8796093 * down e) (suc m * up e * 2 ^ 43)) (leb (suc m * up e) (1000000 * down e)) h)

left_some : (a b : ℕ) → 0 < a → 0 < a + b
left_some a b h = omega arith

right_some : (a b : ℕ) → 0 < b → 0 < a + b
right_some a b h = omega arith

high_of : (x : Float) → writable x ≡ true → T (lt x top)
unfolding lt of_bits writable
high_of nan h = absurd (true≢false (sym h))
high_of (inf s) h = absurd (true≢false (sym h))
high_of (fin false m e) h = lt→ltb _ _ (small (m * up e) (down e) (2 ^ 127) (lit< tt) (down_pos e) (size false m e h))
high_of (fin true m e) h = lt→ltb _ _ (right_some (m * up e * 1) (1 * 2 ^ 127 * down e) (mul-pos {m = 1 * 2 ^ 127} (lit< tt) (down_pos e)))

low_of : (x : Float) → writable x ≡ true → T (lt (neg top) x)
unfolding lt of_bits neg writable
low_of nan h = absurd (true≢false (sym h))
low_of (inf s) h = absurd (true≢false (sym h))
low_of (fin false m e) h = lt→ltb _ _ (left_some (1 * 2 ^ 127 * down e) (m * up e * 1) (mul-pos {m = 1 * 2 ^ 127} (lit< tt) (down_pos e)))
low_of (fin true m e) h = lt→ltb _ _ (small (m * up e) (down e) (2 ^ 127) (lit< tt) (down_pos e) (size true m e h))

pub writable_within : (x : Float) → T (fits binary32 x) → writable x ≡ true → Within x
writable_within x f h = record { one = f; low = low_of x h; high = high_of x h }

-- ---- no position is below the one before
rises_next : (z : Float) (ps : List Float) (i : ℕ) → rises z ps ≡ true → suc i < length ps → lt (get_or ps (suc i) nan) (get_or ps i nan) ≡ false
unfolding rises
rises_next z [] i h l = absurd (not-suc-le-zero l)
rises_next z (p ∷ []) zero h l = absurd (lt_irrefl 1 l)
rises_next z (p ∷ q ∷ ps) zero h l = not-true (lt q p) (both_l (not (lt q p)) (rises q ps) (both_r (not (lt p z)) (not (lt q p) && rises q ps) h))
  where
    not-true : (b : Bool) → not b ≡ true → b ≡ false
    not-true true e = sym e
    not-true false e = refl
rises_next z (p ∷ ps) (suc i) h l = rises_next p ps i (both_r (not (lt p z)) (rises p ps) h) (le_of_suc-le-suc l)

pub rises_at : (z : Float) (ps : List Float) (i : ℕ) → rises z ps ≡ true → i + 1 < length ps → lt (get_or ps (i + 1) nan) (get_or ps i nan) ≡ false
rises_at z ps i h l = ap (λ (k : ℕ). lt (get_or ps k nan) (get_or ps i nan)) (add-one i) ∙ rises_next z ps i h (omega arith)

-- ---- the half-way point
module _ (x y : Float) (wx : Within x) (wy : Within y) (nx : is_nan x ≡ false) (ny : is_nan y ≡ false) (h : lt y x ≡ false) where
  abbrev mid : Float
  mid = (x ⊕ y) ⊘ f2

  rising : T (le x y)
  rising = order.le_from_not_lt y x ny nx h

  pub mid_high : T (le mid y)
  mid_high = mid_le x y wx wy y rising (order.le_refl y ny)

  pub mid_low : is_nan mid ≡ false → T (le x mid)
  mid_low n = order.le_from_not_lt mid x n nx (go (lt mid x) refl)
    where
      go : (b : Bool) → lt mid x ≡ b → lt mid x ≡ false
      go true e = let t : T (lt mid x) = subst T (sym e) tt in absurd (true≢false (below (lt mid mid) (lt_mid x y wx wy mid t (order.lt-le_trans mid x y t rising)) ∙ order.lt_irrefl mid))
        where
          below : (b : Bool) → T b → true ≡ b
          below true t = refl
          below false t = absurd t
      go false e = e
