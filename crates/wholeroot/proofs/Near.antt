-- The whole number nearest to the root of n: q with (2 * q - 1) squared < 4 * n < (2 * q + 1) squared, which for whole numbers is q * q < n + q and n ≤ q * q + q.
-- For an n above zero there is one and only one, `nearest_whole n`. Assumes nothing.
use Rattle.std.proofs.Common.{◌≡◌, ℕ, zero, suc, ◌+◌, ◌-◌, ◌*◌, ◌^◌, ◌<◌, ◌≤◌, Bool, true, false, cond, ltb, sym, refl, subst, le_antisymm, lt_of_not-le, arith, ltb-false, ltb-true}
use native.Mathlib.Nat.{le_dest}
use native.Mathlib.Decide.{dec_le}
use Rattle.wholeroot.specs.WholeRoot.{whole_root, nearest_whole}
use Rattle.wholeroot.proofs.Whole.{whole_root_is, sq_mono}

abbrev pub Near : ℕ → ℕ → Type 0
Near n q = (q * q < n + q) × (n ≤ q * q + q)

-- the squares that are taken on the way to it fit 64 bits
pub square_fits : (q : ℕ) → q < 2 ^ 32 → q * q ≤ (2 ^ 32 - 1) * (2 ^ 32 - 1)
square_fits q h = let k : q ≤ 2 ^ 32 - 1 = omega arith in sq_mono k

pub own_square : (q : ℕ) → q ≤ q * q
own_square zero = omega arith
own_square (suc q) = omega arith

-- ---- one and only one

pub order : (n a b : ℕ) → n ≤ a * a + a → b * b < n + b → b ≤ a
order n a b h k = go (dec_le b a)
  where
    over : (d : ℕ) → suc a + d ≡ b → ⊥
    over d e = let k' : (suc a + d) * (suc a + d) < n + (suc a + d) = subst (λ (x : ℕ). x * x < n + x) (sym e) k in omega arith

    go : Dec (b ≤ a) → b ≤ a
    go (yes e) = e
    go (no f) = absurd (let d = le_dest (lt_of_not-le f) in over d.0 d.1)

pub near_unique : (n a b : ℕ) → Near n a → Near n b → a ≡ b
near_unique n a b h k = le_antisymm (order n b a k.1 h.0) (order n a b h.1 k.0)

-- ---- there is one for every n above zero, and it is `nearest_whole`
pub whole_near : (n : ℕ) → 0 < n → Near n (nearest_whole n)
unfolding nearest_whole
whole_near n p = go (ltb (w * w + w) n) refl
  where
    w : ℕ
    w = whole_root n

    up : (w : ℕ) → w * w + w < n → n < (w + 1) * (w + 1) → Near n (w + 1)
    up w h k = (omega arith, omega arith)

    stay : (w : ℕ) → w * w ≤ n → n ≤ w * w + w → Near n w
    stay zero h k = absurd (omega arith)
    stay (suc w) h k = (omega arith, k)

    go : (t : Bool) → ltb (w * w + w) n ≡ t → Near n (cond t (w + 1) w)
    go true e = up w (ltb-true (w * w + w) n e) (whole_root_is n).1
    go false e = stay w (whole_root_is n).0 (ltb-false (w * w + w) n e)

pub near_whole : (n q : ℕ) → Near n q → q ≡ nearest_whole n
near_whole n q h = near_unique n q (nearest_whole n) h (whole_near n (some n q (own_square q) h))
  where
    some : (n q : ℕ) → q ≤ q * q → Near n q → 0 < n
    some n q k h = let l = h.0 in omega arith

pub none_whole : nearest_whole 0 ≡ 0
unfolding nearest_whole
none_whole = refl
