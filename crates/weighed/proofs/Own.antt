-- The lent positions and their neighbours: each is led by what is no more than it, where the positions never fall. Assumes nothing.
use mathlib.Core.Path.{◌≡◌, refl}
use mathlib.Core.Bool.{false}
use mathlib.Core.List.{List, [], ◌∷◌}
use mathlib.Core.Logic.{inl, inr}
use Prim.Native.Nat.{ℕ, zero, suc, ◌≤◌, ◌<◌}
use native.Mathlib.Omega.{arith}
use lib.Dec.{T, eqb}
use lib.ListN.{length}
use lib.Ieee.{Float, le, is_nan}
use Rattle.float.proofs.Order.{no_nan_l}
use Rattle.stops.specs.Stops.{pos_at}
use Rattle.float.specs.Number.{above_of, below_of}
use Rattle.weighed.specs.Points.{site, sampled_mark, beside_mark, lent_mark, sites_by, joined_with, own_of}
use Rattle.weighed.proofs.Merging.{Led, Each, Number, Marked, led_first, led_second, each_joined}

-- what is made of the positions never falls; of the positions themselves this is `Rising`
abbrev pub NeverFalls : (Float → Float) → List Float → Type 0
NeverFalls f ps = (i j : ℕ) → i ≤ j → j < length ps → T (le (f (pos_at ps i)) (f (pos_at ps j)))

module _ (f : Float → Float) (m : ℕ) where
  led_by : (ps : List Float) → NeverFalls f ps → (k : ℕ) → k < length ps → Led (site (f (pos_at ps k)) m) (sites_by f m ps)
  unfolding sites_by
  led_by [] w k l = absurd (omega arith)
  led_by (p ∷ ps) w zero l = inl refl
  led_by (p ∷ ps) w (suc k) l = inr (w 0 (suc k) (omega arith) l, led_by ps (λ i j a b. w (suc i) (suc j) (omega arith) (omega arith)) k (omega arith))

  numbers_by : (ps : List Float) → NeverFalls f ps → Each Number (sites_by f m ps)
  unfolding sites_by
  numbers_by [] w = tt
  numbers_by (p ∷ ps) w = (no_nan_l (f p) (f p) (w 0 0 (omega arith) (omega arith)), numbers_by ps (λ i j a b. w (suc i) (suc j) (omega arith) (omega arith)))

  marked_by : (ps : List Float) → eqb m sampled_mark ≡ false → Each Marked (sites_by f m ps)
  unfolding sites_by
  marked_by [] e = tt
  marked_by (p ∷ ps) e = (e, marked_by ps e)

pub own_marked : (ps : List Float) → Each Marked (own_of ps)
unfolding own_of
own_marked ps =
    each_joined Marked _ _ (each_joined Marked _ _ (marked_by below_of beside_mark ps refl) (marked_by above_of beside_mark ps refl)) (marked_by (λ p. p) lent_mark ps refl)

module _ (ps : List Float) (k : ℕ) (l : k < length ps) (rising : NeverFalls (λ p. p) ps) where
  pub number_at : is_nan (pos_at ps k) ≡ false
  number_at = no_nan_l (pos_at ps k) (pos_at ps k) (rising k k (omega arith) l)

  -- of the positions themselves nothing else is asked
  pub lent_led : Led (site (pos_at ps k) lent_mark) (own_of ps)
  unfolding own_of
  lent_led = led_second (site (pos_at ps k) lent_mark) number_at (joined_with (sites_by below_of beside_mark ps) (sites_by above_of beside_mark ps)) _ (led_by (λ p. p) lent_mark ps rising k l)

  module _ (belows : NeverFalls below_of ps) (aboves : NeverFalls above_of ps) where
    pub below_led : Led (site (below_of (pos_at ps k)) beside_mark) (own_of ps)
    unfolding own_of
    below_led =
        let s = site (below_of (pos_at ps k)) beside_mark in
        let n = no_nan_l (below_of (pos_at ps k)) (below_of (pos_at ps k)) (belows k k (omega arith) l) in
        let b = numbers_by below_of beside_mark ps belows in
        let a = numbers_by above_of beside_mark ps aboves in
        led_first s n (joined_with (sites_by below_of beside_mark ps) (sites_by above_of beside_mark ps)) _ (each_joined Number _ _ b a) (numbers_by (λ p. p) lent_mark ps rising)
        (led_first s n (sites_by below_of beside_mark ps) (sites_by above_of beside_mark ps) b a (led_by below_of beside_mark ps belows k l))

    pub above_led : Led (site (above_of (pos_at ps k)) beside_mark) (own_of ps)
    unfolding own_of
    above_led =
        let s = site (above_of (pos_at ps k)) beside_mark in
        let n = no_nan_l (above_of (pos_at ps k)) (above_of (pos_at ps k)) (aboves k k (omega arith) l) in
        let b = numbers_by below_of beside_mark ps belows in
        let a = numbers_by above_of beside_mark ps aboves in
        led_first s n (joined_with (sites_by below_of beside_mark ps) (sites_by above_of beside_mark ps)) _ (each_joined Number _ _ b a) (numbers_by (λ p. p) lent_mark ps rising)
        (led_second s n (sites_by below_of beside_mark ps) (sites_by above_of beside_mark ps) (led_by above_of beside_mark ps aboves k l))
