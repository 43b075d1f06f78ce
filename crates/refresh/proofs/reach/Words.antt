-- At a reach of one pair the points outside the stretch are those of document 01's three cases: of the first stop, of the last, of one between; and of a stop that is moved, added or
-- removed those at most the neighbour before or above the one after. Assumes nothing.
use mathlib.Core.Path.{◌≡◌, refl, sym, subst}
use mathlib.Core.Bool.{Bool, true, false, ◌&&◌, ◌||◌}
use mathlib.Core.List.{List}
use Prim.Native.Nat.{ℕ, ◌+◌, ◌-◌, ◌≤◌, ◌<◌}
use native.Mathlib.Omega.{arith}
use borrow.Author.Tests.{lt-ltb, le-ltb}
use lib.Dec.{T, leb, le→leb}
use lib.ListN.{length}
use lib.Ieee.{Float, nan, inf, fin, le, lt}
use lib.Ieee.Bits.{is_true}
use lib.Ieee.Scale.{finite}
use Rattle.float.proofs.Order as order
use Rattle.stops.specs.Stops.{pos_at}
use Rattle.stops.proofs.Reading.{past_end}
use Rattle.refresh.specs.reach.Stretch.{left_end, own_end, colour_stretch, stretch_between, before_of, after_of, outside_of}

or-none : (b : Bool) → (b || false) ≡ b
or-none true = refl
or-none false = refl

-- nothing is at most not-a-number, nor above it
nothing_low : (t : Float) → le t nan ≡ false
unfolding le
nothing_low nan = refl
nothing_low (inf s) = refl
nothing_low (fin s m e) = refl

nothing_high : (t : Float) → lt nan t ≡ false
unfolding lt
nothing_high nan = refl
nothing_high (inf s) = refl
nothing_high (fin s m e) = refl

-- what is at most a finite number is below ∞
finite_below : (x : Float) → T (finite x) → T (lt x (inf false))
unfolding lt
finite_below nan f = absurd f
finite_below (inf s) f = absurd f
finite_below (fin s m e) f = tt

below_all : (t p : Float) → T (finite p) → (le t p && lt t (inf false)) ≡ le t p
below_all t p f = go (le t p) refl
  where
    go : (b : Bool) → le t p ≡ b → (b && lt t (inf false)) ≡ b
    go true e = is_true (lt t (inf false)) (order.le_lt_trans t p (inf false) (subst T (sym e) tt) (finite_below p f))
    go false e = refl

module _ (ps : List Float) (t : Float) where
  pub outside_first : 2 ≤ length ps → outside_of (colour_stretch 1 ps 0) t ≡ lt (pos_at ps 1) t
  unfolding outside_of before_of after_of colour_stretch left_end
  outside_first h = rw (nothing_low t)

  module _ (k : ℕ) (some : 1 ≤ k) where
    pub outside_last : k + 1 ≡ length ps → outside_of (colour_stretch 1 ps k) t ≡ (le t (pos_at ps (k - 1)) && lt t (pos_at ps k))
    unfolding outside_of before_of after_of colour_stretch left_end own_end
    outside_last h =
        rw (is_true (leb 1 k) (le→leb 1 k some), le-ltb (k + 1) (length ps) (omega arith), ← past_end ps (k + 1) (omega arith), nothing_high t)
        (or-none (le t (pos_at ps (k - 1)) && lt t (pos_at ps k)))

    pub outside_inner : k + 1 < length ps → T (finite (pos_at ps (k - 1))) → outside_of (colour_stretch 1 ps k) t ≡ (le t (pos_at ps (k - 1)) || lt (pos_at ps (k + 1)) t)
    unfolding outside_of before_of after_of colour_stretch left_end own_end
    outside_inner h f = rw (is_true (leb 1 k) (le→leb 1 k some), lt-ltb (k + 1) (length ps) h, below_all t (pos_at ps (k - 1)) f)

  -- of a stop that is moved, added or removed, with i and j the stops before and after
  pub outside_between : (i j : ℕ) → T (finite (pos_at ps i)) → outside_of (stretch_between ps i j) t ≡ (le t (pos_at ps i) || lt (pos_at ps j) t)
  unfolding outside_of before_of after_of stretch_between
  outside_between i j f = rw (below_all t (pos_at ps i) f)
