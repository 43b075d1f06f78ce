-- The questions: whether two points show what they must, how far, and the step to the next point kept. Assumes nothing.
use mathlib.Core.Path.{◌≡◌, refl, sym, ap, ap₂, ◌∙◌}
use mathlib.Core.Bool.{Bool, true, false, cond, ◌&&◌}
use mathlib.Core.List.{List, [], ◌∷◌}
use mathlib.Core.Logic.{inl, inr}
use Prim.Native.Nat.{ℕ, zero, suc, ◌+◌, ◌-◌, ◌*◌, ◌^◌, ◌≤◌, ◌<◌, min}
use native.Mathlib.Nat.{pow-succ'}
use native.Mathlib.Omega.{arith}
use borrow.Author.Tests.{le-leb, lt-leb, leb-true}
use lib.Dec.{leb, eqb}
use lib.ListN.{length, get_or, get_or-eq_default}
use lib.Pow.{pow_pos}
use lib.Ieee.{Float, nan}
use Rattle.float.proofs.Flags.{both_l, both_r}
use Rattle.sampling.specs.Midpoints.{Gradient}
use Rattle.weighed.specs.Points.{Site, site, lent_mark}
use Rattle.within.specs.Shown.{Near, point_after, shown_to, lent_left, to_lent, further, reach_from, reach_of}
use Rattle.within.specs.Kept.{lent_shown, any_shown, step_from}
use Rattle.within.specs.inner.Weighing.{sites_from, all_from, fair_from, points_to}
use Rattle.within.proofs.Arrays.{sites_length, sites_get, shows_all}
use Rattle.within.proofs.Reaching.{reached, lent_on}

-- ---- the marks alone count
same_left : (ts us : List Float) (ms : List ℕ) (i k : ℕ) → lent_left (sites_from ts ms i k) ≡ lent_left (sites_from us ms i k)
unfolding sites_from lent_left
same_left ts us ms i zero = refl
same_left ts us ms i (suc k) = ap (λ (n : ℕ). cond (eqb (get_or ms i 0) lent_mark) (suc n) n) (same_left ts us ms (suc i) k)

same_lent : (ts us : List Float) (ms : List ℕ) (r i k : ℕ) → to_lent r (sites_from ts ms i k) ≡ to_lent r (sites_from us ms i k)
unfolding sites_from to_lent
same_lent ts us ms zero i k = refl
same_lent ts us ms (suc r) i zero = refl
same_lent ts us ms (suc r) i (suc k) = ap₂ (λ (x y : ℕ). suc (cond (eqb (get_or ms i 0) lent_mark) x y)) (same_lent ts us ms r (suc i) k) (same_lent ts us ms (suc r) (suc i) k)

pub same_points : (lent : Bool) (ts : List Float) (ms : List ℕ) (r i k : ℕ) → points_to lent (sites_from ts ms i k) r ≡ points_to lent (sites_from [] ms i k) r
unfolding points_to
same_points lent ts ms r i k =
    rw (same_left ts [] ms i k, same_lent ts [] ms r i k, sites_length ts ms i k, sites_length [] ms i k)

-- ---- how many points a question goes
lent_most : (r : ℕ) (ss : List Site) → to_lent r ss ≤ suc (length ss)
unfolding to_lent
lent_most zero ss = omega arith
lent_most (suc r) [] = omega arith
lent_most (suc r) (s ∷ ss) = go (eqb s.mark lent_mark) (lent_most r ss) (lent_most (suc r) ss)
  where
    go : (b : Bool) → to_lent r ss ≤ suc (length ss) → to_lent (suc r) ss ≤ suc (length ss) → suc (cond b (to_lent r ss) (to_lent (suc r) ss)) ≤ suc (suc (length ss))
    go true p q = omega (arith, p)
    go false p q = omega (arith, q)

pub points_most : (lent : Bool) (rest : List Site) (r : ℕ) → points_to lent rest r ≤ suc (length rest)
unfolding points_to
points_most true rest r = go (leb r (lent_left rest))
  where
    go : (b : Bool) → cond b (to_lent r rest) 0 ≤ suc (length rest)
    go true = lent_most r rest
    go false = omega arith
points_most false rest r = go (leb r (suc (length rest))) refl
  where
    go : (b : Bool) → leb r (suc (length rest)) ≡ b → cond b r 0 ≤ suc (length rest)
    go true e = leb-true r (suc (length rest)) e
    go false e = omega arith

module _ (l : Bool) (ms : List ℕ) (from count r : ℕ) (h : l ≡ false) where
  pub points_past : count - from + 1 < r → 0 ≡ points_to l (sites_from [] ms from (count - from)) r
  unfolding points_to
  points_past k = rw (h, sites_length [] ms from (count - from), lt-leb r (suc (count - from)) (omega arith))

  pub points_all : r ≤ count - from + 1 → r ≡ points_to l (sites_from [] ms from (count - from)) r
  unfolding points_to
  points_all k = rw (h, sites_length [] ms from (count - from), le-leb r (suc (count - from)) (omega arith))

-- ---- the r-th point
module _ (max : Float) (ts : List Float) (ms : List ℕ) (from count r : ℕ) (h : from ≤ count) (some : 1 ≤ r) where
  pub after_past : count ≤ from + r - 1 → max ≡ point_after max (sites_from ts ms from (count - from)) r
  after_past k = sym (ap (λ (s : Site). s.t) (get_or-eq_default (sites_from ts ms from (count - from)) (site max lent_mark) {n = r - 1} (omega (arith, sites_length ts ms from (count - from)))))

  pub after_in : from + r - 1 < count → get_or ts (from + r - 1) nan ≡ point_after max (sites_from ts ms from (count - from)) r
  after_in k = sym (ap (λ (s : Site). s.t) (sites_get ts ms from (count - from) (r - 1) (from + r - 1) (site max lent_mark) (omega arith) (omega arith)))

-- ---- an answer, by how many points it goes
module _ (g : Gradient) (near : Near) (max a : Float) (rest : List Site) where
  abbrev asked : Bool → ℕ → Bool
  asked lent = cond lent (lent_shown g near max a rest) (any_shown g near max a rest)

  pub asked_none : (lent : Bool) (r : ℕ) → 1 ≤ r → points_to lent rest r ≡ 0 → false ≡ asked lent r
  unfolding points_to lent_shown any_shown
  asked_none true r h e = go (leb r (lent_left rest)) e
    where
      go : (b : Bool) → cond b (to_lent r rest) 0 ≡ 0 → false ≡ (b && shown_to g near max a rest (to_lent r rest))
      go true k = absurd (omega (arith, k, lent_on r rest h))
      go false k = refl
  asked_none false r h e = go (leb r (suc (length rest))) e
    where
      go : (b : Bool) → cond b r 0 ≡ 0 → false ≡ (b && shown_to g near max a rest r)
      go true k = absurd (omega (arith, k, h))
      go false k = refl

  pub asked_some : (lent : Bool) (r k : ℕ) → k ≡ points_to lent rest r → (k ≡ 0 → ⊥) → shown_to g near max a rest k ≡ asked lent r
  unfolding points_to lent_shown any_shown
  asked_some true r k e n = go (leb r (lent_left rest)) e
    where
      go : (b : Bool) → k ≡ cond b (to_lent r rest) 0 → shown_to g near max a rest k ≡ (b && shown_to g near max a rest (to_lent r rest))
      go true d = rw d
      go false d = absurd (n d)
  asked_some false r k e n = go (leb r (suc (length rest))) e
    where
      go : (b : Bool) → k ≡ cond b r 0 → shown_to g near max a rest k ≡ (b && shown_to g near max a rest r)
      go true d = rw d
      go false d = absurd (n d)

  -- ---- a step
  abbrev lents : ℕ
  lents = reach_of (lent_shown g near max a rest)

  abbrev anys : ℕ
  anys = reach_of (any_shown g near max a rest)

  module _ (h : lent_shown g near max a rest 1 ≡ true) where
    lent_asked : lent_shown g near max a rest (reach_of (lent_shown g near max a rest)) ≡ true
    lent_asked = elim (reached (lent_shown g near max a rest)).asked [ inl o ↦ rw o h | inr y ↦ y ]

    pub lent_step : (r n : ℕ) → r ≡ reach_of (lent_shown g near max a rest) → n ≡ points_to true rest r → n ≡ step_from g near max a rest
    unfolding step_from points_to lent_shown
    lent_step r n e d = d ∙ rw (e, both_l (leb lents (lent_left rest)) (shown_to g near max a rest (to_lent lents rest)) lent_asked, h)

    pub lent_shown_lem : true ≡ shown_to g near max a rest (step_from g near max a rest)
    unfolding step_from lent_shown
    lent_shown_lem = rw h (sym (both_r (leb lents (lent_left rest)) (shown_to g near max a rest (to_lent lents rest)) lent_asked))

  module _ (h : lent_shown g near max a rest 1 ≡ false) where
    pub any_step : (r : ℕ) → r ≡ reach_of (any_shown g near max a rest) → r ≡ step_from g near max a rest
    unfolding step_from
    any_step r e = e ∙ rw h

    pub any_shown_lem : (r : ℕ) → r ≡ reach_of (any_shown g near max a rest) → 1 < r → true ≡ shown_to g near max a rest (step_from g near max a rest)
    unfolding step_from any_shown
    any_shown_lem r e l =
        elim (reached (any_shown g near max a rest)).asked [
          | inl o ↦ absurd (omega (arith, e, o, l))
          | inr y ↦ rw h (sym (both_r (leb anys (suc (length rest))) (shown_to g near max a rest anys) y))
        ]

    pub one_step : (r : ℕ) → r ≡ reach_of (any_shown g near max a rest) → r ≤ 1 → 1 ≡ step_from g near max a rest
    one_step r e l = let n : 1 ≡ r = omega (arith, e, l, (reached (any_shown g near max a rest)).least) in n ∙ any_step r e

    pub one_shown : (r : ℕ) → r ≡ reach_of (any_shown g near max a rest) → r ≤ 1 → (y : Bool) → y ≡ any_shown g near max a rest 1 → y ≡ shown_to g near max a rest (step_from g near max a rest)
    unfolding any_shown
    one_shown r e l y d = d ∙ rw (le-leb 1 (suc (length rest)) (omega arith)) (ap (shown_to g near max a rest) (one_step r e l))

  -- it goes no further than max
  pub step_most : step_from g near max a rest ≤ suc (length rest)
  unfolding step_from any_shown
  step_most = go (lent_shown g near max a rest 1)
    where
      any : reach_of (any_shown g near max a rest) ≤ suc (length rest)
      any = elim (reached (any_shown g near max a rest)).asked [
        | inl o ↦ omega (arith, o)
        | inr y ↦ leb-true anys (suc (length rest)) (both_l (leb anys (suc (length rest))) (shown_to g near max a rest anys) y)
      ]

      go : (b : Bool) → cond b (to_lent (reach_of (lent_shown g near max a rest)) rest) (reach_of (any_shown g near max a rest)) ≤ suc (length rest)
      go true = lent_most (reach_of (lent_shown g near max a rest)) rest
      go false = any

-- ---- of points in two arrays
pub shown_from : (g : Gradient) (near : Near) (max a b : Float) (ts : List Float) (ms : List ℕ) (from count k to : ℕ) → from ≤ count → to ≡ min (from + k) count
    → b ≡ point_after max (sites_from ts ms from (count - from)) k
    → all_from (fair_from g near a b ts ms) from (to - from) ≡ shown_to g near max a (sites_from ts ms from (count - from)) k
unfolding shown_to
shown_from g near max a b ts ms from count k to h e d =
    rw (← d) (sym (shows_all ts ms g near a b k from (count - from) (to - from) (omega arith)))

-- ---- the reach
module _ (yes : ℕ → Bool) where
  pub reach_none : (k r : ℕ) → k ≡ 0 → r ≡ reach_from yes k r
  unfolding reach_from
  reach_none k r e = rw e

  pub reach_stops : (k r : ℕ) → (k ≡ 0 → ⊥) → yes (2 * r) ≡ false → r ≡ reach_from yes k r
  unfolding reach_from
  reach_stops zero r n h = absurd (n refl)
  reach_stops (suc k) r n h = rw h

  module _ (k r x : ℕ) (n : k ≡ 0 → ⊥) (h : yes (2 * r) ≡ true) (e : x ≡ reach_from yes (k - 1) (2 * r)) where
    whole : reach_from yes k r ≡ further yes r x
    unfolding reach_from
    whole = by k n e
      where
        by : (k : ℕ) → (k ≡ 0 → ⊥) → x ≡ reach_from yes (k - 1) (2 * r) → reach_from yes k r ≡ further yes r x
        by zero n e = absurd (n refl)
        by (suc j) n e = let d : suc j - 1 ≡ j = omega arith in rw h (ap (further yes r) (sym (rw d at e)))

    pub reach_stays : yes (x + r) ≡ false → x ≡ reach_from yes k r
    unfolding further
    reach_stays f = sym (whole ∙ rw f)

    pub reach_adds : yes (x + r) ≡ true → x + r ≡ reach_from yes k r
    unfolding further
    reach_adds f = sym (whole ∙ rw f)

  stop_bound : (r m n : ℕ) → n ≡ 2 * m → 1 ≤ m → r + r ≤ 2 * (r * n)
  stop_bound r zero n e h = absurd (omega arith)
  stop_bound r (suc m) n e h = rw e (omega arith)

  more_bound : (x r m n : ℕ) → n ≡ 2 * m → x + 2 * r ≤ 2 * (2 * r * m) → x + r + r ≤ 2 * (r * n)
  more_bound x r m n e h = rw e (omega arith)

  reach_bound : (k r : ℕ) → reach_from yes k r + r ≤ 2 * (r * 2 ^ k)
  unfolding reach_from further
  reach_bound zero r = omega arith
  reach_bound (suc k) r = go (yes (2 * r)) (yes (reach_from yes k (2 * r) + r)) (reach_bound k (2 * r))
    where
      two : 2 ^ suc k ≡ 2 * 2 ^ k
      two = pow-succ' 2 k

      go : (a b : Bool) → reach_from yes k (2 * r) + 2 * r ≤ 2 * (2 * r * 2 ^ k) → cond a (cond b (reach_from yes k (2 * r) + r) (reach_from yes k (2 * r))) r + r ≤ 2 * (r * 2 ^ suc k)
      go true true h = more_bound (reach_from yes k (2 * r)) r (2 ^ k) (2 ^ suc k) two h
      go true false h = omega (arith, more_bound (reach_from yes k (2 * r)) r (2 ^ k) (2 ^ suc k) two h)
      go false b h = stop_bound r (2 ^ k) (2 ^ suc k) two (pow_pos k)

  pub reach_most : (k r : ℕ) → r * 2 ^ k ≤ 16384 → reach_from yes k r ≤ 32768
  reach_most k r h = omega (arith, reach_bound k r)

pub half_reach : (k r : ℕ) → (k ≡ 0 → ⊥) → r * 2 ^ k ≤ 16384 → 2 * r * 2 ^ (k - 1) ≤ 16384
half_reach zero r n h = absurd (n refl)
half_reach (suc k) r n h = let d : suc k - 1 ≡ k = omega arith in rw d (by (2 ^ k) (2 ^ suc k) (pow-succ' 2 k) h)
  where
    by : (m q : ℕ) → q ≡ 2 * m → r * q ≤ 16384 → 2 * r * m ≤ 16384
    by m q e l = let f : r * (2 * m) ≤ 16384 = rw (← e) l in omega arith

pub reach_all : (f : ℕ → Bool) (r : ℕ) → r ≡ reach_from f 14 1 → r ≡ reach_of f
unfolding reach_of
reach_all f r e = e

pub reach_least : (k r : ℕ) → r * 2 ^ k ≤ 16384 → r ≤ 16384
reach_least k r h = by (2 ^ k) (pow_pos k) h
  where
    by : (m : ℕ) → 1 ≤ m → r * m ≤ 16384 → r ≤ 16384
    by zero a b = absurd (omega arith)
    by (suc m) a b = omega arith
