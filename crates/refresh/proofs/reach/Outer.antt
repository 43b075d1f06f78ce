-- The ends of a stretch, and what each test of a midpoint against it tells. Assumes nothing.
use mathlib.Core.Path.{◌≡◌, refl}
use mathlib.Core.Bool.{Bool, true, false}
use mathlib.Core.List.{List}
use Prim.Native.Nat.{ℕ, zero, suc, ◌+◌, ◌-◌, ◌<◌}
use native.Mathlib.Numerals.{sub-one}
use borrow.Author.Tests.{lt-ltb, lt-leb}
use lib.ListN.{length}
use lib.Ieee.{Float, nan, inf}
use Rattle.stops.specs.Stops.{pos_at}
use Rattle.sampling.specs.Midpoints.{mid_of}
use Rattle.refresh.specs.reach.Stretch.{left_end, own_end, stretch_between, mids_outside}

-- ---- the ends of the stretch of stop k
module _ (ps : List Float) (k : ℕ) where
  pub not_last : k + 1 < length ps → inf false ≡ own_end ps k
  unfolding own_end
  not_last h = simp (lt-ltb (k + 1) (length ps) h)

module _ (reach : ℕ) (ps : List Float) (k : ℕ) where
  pub no_left : k < reach → nan ≡ left_end reach ps k
  unfolding left_end
  no_left h = simp (lt-leb reach k h)

pub by_stops : (ps : List Float) (i j : ℕ) {l h : Float} → l ≡ pos_at ps i → h ≡ pos_at ps j → record { low = l; below = inf false; high = h } ≡ stretch_between ps i j
unfolding stretch_between
by_stops ps i j p r = rw (p, r)

module _ (out : Float → Bool) (t0 t1 : Float) where
  -- ---- the midpoints
  module _ (m : Float) (is_mid : m ≡ mid_of t0 t1) where
    pub mid_inside : (n : ℕ) → (n ≡ 0 → ⊥) → out m ≡ false → false ≡ mids_outside out n t0 t1
    unfolding mids_outside
    mid_inside zero some h = absurd (some refl)
    mid_inside (suc n) some h = rw (← is_mid, h)

    module _ (away : out m ≡ true) where
      pub left_inside : (n : ℕ) → (n ≡ 0 → ⊥) → mids_outside out (n - 1) t0 m ≡ false → false ≡ mids_outside out n t0 t1
      unfolding mids_outside
      left_inside zero some h = absurd (some refl)
      left_inside (suc n) some h = rw (← is_mid, away, rw sub-one at h)

      pub left_outside : (n : ℕ) → (n ≡ 0 → ⊥) → mids_outside out (n - 1) t0 m ≡ true → mids_outside out (n - 1) m t1 ≡ mids_outside out n t0 t1
      unfolding mids_outside
      left_outside zero some h = absurd (some refl)
      left_outside (suc n) some h = rw (sub-one, ← is_mid, away, rw sub-one at h)
