-- Positions that are finite, do not fall and end at max, one by one. Assumes nothing.
use mathlib.Core.Path.{◌≡◌, ◌∙◌, ap}
use mathlib.Core.Bool.{true, false, not, ◌&&◌}
use mathlib.Core.List.{List, [], ◌∷◌}
use Prim.Native.Nat.{ℕ, zero, suc, ◌+◌, ◌≤◌, ◌<◌}
use native.Mathlib.Numerals.{add-one}
use native.Mathlib.Omega.{arith}
use lib.ListN.{length, get_or, drop, drop_of_length-le}
use lib.Seq.{drop-cons}
use lib.Ieee.{Float, nan, lt, eq}
use lib.Ieee.Scale.{finite}
use borrow.Author.Tests.{not-true}
use Rattle.float.proofs.Flags.{both_l, both_r}
use Rattle.stops.specs.Stops.{steady}
use Rattle.stops.specs.Place.{Rising}
use Rattle.stops.proofs.Valid.{rises, finite_number}

module _ (max : Float) (xs : List Float) (i : ℕ) (prev : Float) where
  steady_step : i < length xs → steady max prev (drop i xs) ≡ (finite (get_or xs i nan) && not (lt (get_or xs i nan) prev) && steady max (get_or xs i nan) (drop (i + 1) xs))
  unfolding steady
  steady_step h = ap (λ (l : List Float). steady max prev l) (drop-cons xs i nan h) ∙ simp add-one

  pub steady_infinite : i < length xs → finite (get_or xs i nan) ≡ false → steady max prev (drop i xs) ≡ false
  steady_infinite h a = steady_step h ∙ simp a

  pub steady_falls : i < length xs → finite (get_or xs i nan) ≡ true → lt (get_or xs i nan) prev ≡ true → steady max prev (drop i xs) ≡ false
  steady_falls h a b = steady_step h ∙ simp (a, b)

  pub steady_next : i < length xs → finite (get_or xs i nan) ≡ true → lt (get_or xs i nan) prev ≡ false → steady max prev (drop i xs) ≡ steady max (get_or xs i nan) (drop (i + 1) xs)
  steady_next h a b = steady_step h ∙ simp (a, b)

  pub steady_end : length xs ≤ i → steady max prev (drop i xs) ≡ eq prev max
  unfolding steady
  steady_end h = ap (λ (l : List Float). steady max prev l) (drop_of_length-le xs h)

-- any of them
pub steady-finite : (max prev : Float) (ps : List Float) → steady max prev ps ≡ true → (i : ℕ) → i < length ps → finite (get_or ps i nan) ≡ true
unfolding steady
steady-finite max prev [] h i l = absurd (omega arith)
steady-finite max prev (p ∷ ps) h zero l = both_l (finite p) (not (lt p prev)) (both_l (finite p && not (lt p prev)) (steady max p ps) h)
steady-finite max prev (p ∷ ps) h (suc i) l = steady-finite max p ps (both_r (finite p && not (lt p prev)) (steady max p ps) h) i (omega arith)

pub steady_rises : (max prev : Float) (ps : List Float) → steady max prev ps ≡ true → (i : ℕ) → suc i < length ps → lt (get_or ps (suc i) nan) (get_or ps i nan) ≡ false
unfolding steady
steady_rises max prev [] h i l = absurd (omega arith)
steady_rises max prev (p ∷ []) h i l = absurd (omega arith)
steady_rises max prev (p ∷ q ∷ ps) h zero l =
    let rest : steady max p (q ∷ ps) ≡ true = both_r (finite p && not (lt p prev)) (steady max p (q ∷ ps)) h in
    not-true (lt q p) (both_r (finite q) (not (lt q p)) (both_l (finite q && not (lt q p)) (steady max q ps) rest))
steady_rises max prev (p ∷ q ∷ ps) h (suc i) l = steady_rises max p (q ∷ ps) (both_r (finite p && not (lt p prev)) (steady max p (q ∷ ps)) h) i (omega arith)

-- finite positions that do not fall
pub steady_rising : (max prev : Float) (ps : List Float) → steady max prev ps ≡ true → Rising ps
steady_rising max prev ps h = rises ps (λ i l. finite_number (get_or ps i nan) (steady-finite max prev ps h i l)) (λ j l. steady_rises max prev ps h j l)
