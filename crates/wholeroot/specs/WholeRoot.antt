-- The root of a whole number: its whole part, and the whole number nearest to it. Definitions only.
use Rattle.std.specs.Prelude.{ℕ, zero, suc, ◌+◌, ◌*◌, ◌/◌, cond, nat_le, nat_lt}
use Rattle.std.specs.Float.Ieee.{size}

-- w, or w + 1 where the square of that is no more than n
abbrev pub step_up : ℕ → ℕ → ℕ
step_up n w = cond (nat_le ((w + 1) * (w + 1)) n) (w + 1) w

-- the largest w with w * w ≤ n, for an n below 4 ^ d: twice the root of n / 4, or one more
unfoldable pub root_by : ℕ → ℕ → ℕ
root_by zero n = 0
root_by (suc d) n = step_up n (2 * root_by d (n / 4))

-- the largest w with w * w ≤ n
unfoldable pub whole_root : ℕ → ℕ
unfolding root_by size
whole_root n = root_by (size n) n

-- The whole number nearest to the root of n: w, the whole part, or w + 1 where the root is above w + 1/2.
-- The square of that is w * w + w + 1/4, so n is above it where n is above w * w + w; and it is never equal.
unfoldable pub nearest_whole : ℕ → ℕ
unfolding whole_root
nearest_whole n = let w = whole_root n in cond (nat_lt (w * w + w) n) (w + 1) w
