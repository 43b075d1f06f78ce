-- `whole_root n` is the whole part of the root of n. Nothing here is about floats. Assumes nothing.
use Rattle.std.proofs.Common.{ℕ, zero, suc, ◌+◌, ◌*◌, ◌/◌, ◌^◌, ◌<◌, ◌≤◌, Bool, true, false, cond, not, T, leb, le_refl, lt_of_lt_of_le, mul-le-mul, arith, leb→le}
use lib.Dec.{nleb→lt}
use lib.Ieee.{size}
use lib.Ieee.Digits.{size-lt}
use Rattle.wholeroot.specs.WholeRoot.{step_up, root_by, whole_root}

-- r is the whole part of the root of n
abbrev pub IsWhole : ℕ → ℕ → Type 0
IsWhole n r = (r * r ≤ n) × (n < (r + 1) * (r + 1))

-- squares keep the order
pub sq_mono : {a b : ℕ} → a ≤ b → a * a ≤ b * b
sq_mono h = mul-le-mul h h

step : (n w : ℕ) → w * w ≤ n → n < (w + 2) * (w + 2) → IsWhole n (step_up n w)
step n w lo hi = go (leb ((w + 1) * (w + 1)) n) (leb→le ((w + 1) * (w + 1)) n) (nleb→lt ((w + 1) * (w + 1)) n)
  where
    go : (b : Bool) → (T b → (w + 1) * (w + 1) ≤ n) → (T (not b) → n < (w + 1) * (w + 1)) → IsWhole n (cond b (w + 1) w)
    go true h k = (h tt, omega arith)
    go false h k = (lo, k tt)

pub root_by_is : (d n : ℕ) → n < 4 ^ d → IsWhole n (root_by d n)
unfolding root_by
root_by_is zero n h = (omega arith, omega arith)
root_by_is (suc d) n h = go (root_by d (n / 4)) (root_by_is d (n / 4) (quarter h))
  where
    quarter : n < 4 ^ suc d → n / 4 < 4 ^ d
    quarter k = omega arith

    go : (s : ℕ) → IsWhole (n / 4) s → IsWhole n (step_up n (2 * s))
    go s i = step n (2 * s) (omega arith) (omega arith)

pub whole_root_is : (n : ℕ) → IsWhole n (whole_root n)
unfolding whole_root
whole_root_is n = root_by_is (size n) n (lt_of_lt_of_le (size-lt n) (four (size n)))
  where
    four : (d : ℕ) → 2 ^ d ≤ 4 ^ d
    four zero = le_refl 1
    four (suc d) = let h : 2 ^ d ≤ 4 ^ d = four d in omega arith
