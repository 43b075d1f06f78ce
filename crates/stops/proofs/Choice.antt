-- The first index whose position is t or more, and the place of t test by test. Assumes nothing.
use mathlib.Core.Path.{◌≡◌, refl, sym, ap, subst}
use mathlib.Core.Bool.{Bool, true, false, not, cond}
use mathlib.Core.List.{List, [], ◌∷◌}
use Prim.Native.Nat.{ℕ, zero, suc, ◌-◌, ◌≤◌, ◌<◌}
use native.Mathlib.Omega.{arith}
use lib.Dec.{T}
use lib.ListN.{length}
use lib.Ieee.{Float, le, lt, is_nan}
use Rattle.float.proofs.Order.{lt_is, not_lt_from_le, no_nan_l}
use Rattle.stops.specs.Stops.{pos_at}
use Rattle.stops.specs.Place.{Rising, first_at, place_of}
use Rattle.stops.specs.declared.Place.TheVariants.{End, Nowhere, Between}

-- no position is not-a-number
abbrev pub Numbers : List Float → Type 0
Numbers ps = (k : ℕ) → k < length ps → is_nan (pos_at ps k) ≡ false

pub rising_numbers : (ps : List Float) → Rising ps → Numbers ps
rising_numbers ps h k l = no_nan_l (pos_at ps k) (pos_at ps k) (h k k (omega arith) l)

tail_numbers : (p : Float) (ps : List Float) → Numbers (p ∷ ps) → Numbers ps
tail_numbers p ps h k l = h (suc k) (omega arith)

-- of two that are no NaN, `le` is `lt` the other way round, denied
pub le_is : (t p : Float) → is_nan t ≡ false → is_nan p ≡ false → le t p ≡ not (lt p t)
le_is t p ht hp = go (le t p) refl
  where
    go : (b : Bool) → le t p ≡ b → b ≡ not (lt p t)
    go true e = simp (not_lt_from_le p t (subst T (sym e) tt))
    go false e = simp (lt_is p t hp ht, e)

-- what is below t up to r, and not at r, has r as its first index
pub first-is : (t : Float) (ps : List Float) (r : ℕ) → is_nan t ≡ false → Numbers ps → r ≤ length ps
    → ((k : ℕ) → k < r → lt (pos_at ps k) t ≡ true) → (r < length ps → lt (pos_at ps r) t ≡ false) → first_at t ps ≡ r
unfolding first_at
first-is t [] r T N h b e = omega arith
first-is t (p ∷ ps) zero T N h b e = simp (le_is t p T (N 0 (omega arith)), e (omega arith))
first-is t (p ∷ ps) (suc r) T N h b e =
    simp (le_is t p T (N 0 (omega arith)), b 0 (omega arith))
    (ap suc (first-is t ps r T (tail_numbers p ps N) (omega arith) (λ k l. b (suc k) (omega arith)) (λ l. e (omega arith))))

-- ---- the document's k: its position is t or more, and no position before it is
pub first_reaches : (t : Float) (ps : List Float) → first_at t ps < length ps → le t (pos_at ps (first_at t ps)) ≡ true
unfolding first_at
first_reaches t [] h = absurd (omega arith)
first_reaches t (p ∷ ps) h = go (le t p) refl (first_reaches t ps) h
  where
    go : (b : Bool) → le t p ≡ b → (first_at t ps < length ps → le t (pos_at ps (first_at t ps)) ≡ true) → cond b zero (suc (first_at t ps)) < suc (length ps) → le t (pos_at (p ∷ ps) (cond b zero (suc (first_at t ps)))) ≡ true
    go true e r l = e
    go false e r l = r (omega arith)

pub before_first : (t : Float) (ps : List Float) (j : ℕ) → j < first_at t ps → le t (pos_at ps j) ≡ false
unfolding first_at
before_first t [] j h = absurd (omega arith)
before_first t (p ∷ ps) j h = go (le t p) refl j h (before_first t ps)
  where
    go : (b : Bool) → le t p ≡ b → (j : ℕ) → j < cond b zero (suc (first_at t ps)) → ((i : ℕ) → i < first_at t ps → le t (pos_at ps i) ≡ false) → le t (pos_at (p ∷ ps) j) ≡ false
    go true e j l r = absurd (omega arith)
    go false e zero l r = e
    go false e (suc j) l r = r j (omega arith)

-- ---- the place of t, test by test
module _ (ps : List Float) (t : Float) where
  pub place_first : le t (pos_at ps 0) ≡ true → place_of ps t ≡ End 0
  unfolding place_of
  place_first a = simp a

  module _ (a : le t (pos_at ps 0) ≡ false) where
    pub place_last : le (pos_at ps (length ps - 1)) t ≡ true → place_of ps t ≡ End (length ps - 1)
    unfolding place_of
    place_last b = simp (a, b)

    module _ (b : le (pos_at ps (length ps - 1)) t ≡ false) where
      pub place_nan : is_nan t ≡ true → place_of ps t ≡ Nowhere
      unfolding place_of
      place_nan n = simp (a, b, n)

      pub place_between : is_nan t ≡ false → place_of ps t ≡ Between (first_at t ps)
      unfolding place_of
      place_between n = simp (a, b, n)
