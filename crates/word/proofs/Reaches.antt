-- A question that is answered yes up to a number, and no past it, is reached exactly there; and where no point is left, max alone is kept. Assumes nothing.
use mathlib.Core.Path.{◌≡◌}
use mathlib.Core.Bool.{Bool, true, false, cond}
use mathlib.Core.List.{[]}
use Prim.Native.Nat.{ℕ, zero, suc, ◌+◌, ◌*◌, ◌≤◌, ◌<◌}
use native.Mathlib.Nat.{lt_of_not-le}
use native.Mathlib.Decide.{dec_le}
use native.Mathlib.Omega.{arith}
use borrow.Author.Tests.{lt-leb}
use lib.ListN.{length}
use lib.Ieee.{Float}
use Rattle.sampling.specs.Midpoints.{Gradient}
use Rattle.within.specs.Shown.{Near, further, reach_from, reach_of}
use Rattle.within.specs.Kept.{step_from, kept_from}
use Rattle.within.proofs.Reaching.{step_on}

-- r doubled k times more is past m
abbrev Enough : ℕ → ℕ → ℕ → Type 0
Enough zero r m = m < 2 * r
Enough (suc k) r m = Enough k (2 * r) m

module _ (ask : ℕ → Bool) (m : ℕ) (some : 1 ≤ m) (up : (r : ℕ) → 1 ≤ r → r ≤ m → ask r ≡ true) (past : (r : ℕ) → m < r → ask r ≡ false) where
  abbrev Last : ℕ → ℕ → Type 0
  Last r step = (r ≤ m) × (m < r + step)

  halved : (s r : ℕ) → 1 ≤ s → Last r (2 * s) → Last (further ask s r) s
  unfolding further
  halved s r one w = go (dec_le (r + s) m)
    where
      go : Dec (r + s ≤ m) → (cond (ask (r + s)) (r + s) r ≤ m) × (m < cond (ask (r + s)) (r + s) r + s)
      go (yes h) = let k = w.1 in rw (up (r + s) (omega arith) h) (h, omega arith)
      go (no f) = let h = lt_of_not-le f in rw (past (r + s) h) (w.0, h)

  from_last : (k r : ℕ) → 1 ≤ r → r ≤ m → Enough k r m → Last (reach_from ask k r) r
  unfolding reach_from
  from_last zero r one l w = (l, omega arith)
  from_last (suc k) r one l w = go (dec_le (2 * r) m) (from_last k (2 * r))
    where
      go : Dec (2 * r ≤ m) → (1 ≤ 2 * r → 2 * r ≤ m → Enough k (2 * r) m → (reach_from ask k (2 * r) ≤ m) × (m < reach_from ask k (2 * r) + 2 * r))
          → (cond (ask (2 * r)) (further ask r (reach_from ask k (2 * r))) r ≤ m) × (m < cond (ask (2 * r)) (further ask r (reach_from ask k (2 * r))) r + r)
      go (yes h) f = rw (up (2 * r) (omega arith) h) (halved r (reach_from ask k (2 * r)) one (f (omega arith) h w))
      go (no n) f = let h = lt_of_not-le n in rw (past (2 * r) h) (l, omega arith)

  pub reach_last : m < 32768 → reach_of ask ≡ m
  unfolding reach_of
  reach_last few = let w = from_last 14 1 (omega arith) some few in equal (reach_from ask 14 1) w.0 w.1
    where
      equal : (r : ℕ) → r ≤ m → m < r + 1 → r ≡ m
      equal r a b = omega arith

pub max_alone : (g : Gradient) (near : Near) (max : Float) (n : ℕ) (a : Float) → length (kept_from g near max n a []) ≤ 1
unfolding kept_from
max_alone g near max zero a = omega arith
max_alone g near max (suc n) a = rw (lt-leb (step_from g near max a []) 0 (step_on g near max a [])) (omega arith)
