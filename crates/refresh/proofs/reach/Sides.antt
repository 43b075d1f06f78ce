-- A cell whose two ends are on one and the same outer side of the stretch is clear, so its midpoints need not be tried:
-- the midpoint of two points on a side is on that side. Asked of the ends is only that they are below 2 ^ 127 in size. Assumes nothing.
use mathlib.Core.Path.{◌≡◌, sym, subst}
use mathlib.Core.Bool.{Bool, true, false, ◌&&◌, ◌||◌}
use Prim.Native.Nat.{ℕ, zero, suc}
use lib.Dec.{T}
use lib.Ieee.{Float, lt, le}
use lib.Ieee.Fits.{and_l, and_r, and_i}
use lib.Ieee.Bits.{is_true}
use Rattle.float.specs.Number.{Within}
use Rattle.float.proofs.Midpoint.{mid_le, mid_lt, lt_mid, mid_within}
use Rattle.sampling.specs.Constants.{depth}
use Rattle.sampling.specs.Midpoints.{mid_of}
use Rattle.refresh.specs.reach.Stretch.{before_of, after_of, outside_of, mids_outside, clear_of}
use Rattle.refresh.specs.declared.reach.stretch.Stretch.{Stretch}

-- a rule that holds of a midpoint where it holds of both ends
abbrev pub Side : (Float → Bool) → Type 0
Side side = (x y : Float) → Within x → Within y → T (side x) → T (side y) → T (side (mid_of x y))

module _ (side out : Float → Bool) (is_side : Side side) (outer : (t : Float) → T (side t) → T (out t)) where
  mids : (n : ℕ) (t0 t1 : Float) → Within t0 → Within t1 → T (side t0) → T (side t1) → T (mids_outside out n t0 t1)
  unfolding mids_outside mid_of
  mids zero t0 t1 w0 w1 s0 s1 = tt
  mids (suc n) t0 t1 w0 w1 s0 s1 =
      let m = mid_of t0 t1 in
      let w : Within m = mid_within t0 t1 w0 w1 in
      let s : T (side m) = is_side t0 t1 w0 w1 s0 s1 in
      and_i (out m) (mids_outside out n t0 m && mids_outside out n m t1) (outer m s)
      (and_i (mids_outside out n t0 m) (mids_outside out n m t1) (mids n t0 m w0 w s0 s) (mids n m t1 w w1 s s1))

  pub side_clear : (t0 t1 : Float) → Within t0 → Within t1 → T (side t0) → T (side t1) → clear_of out t0 t1 ≡ true
  unfolding clear_of
  side_clear t0 t1 w0 w1 s0 s1 =
      is_true (out t0 && (out t1 && mids_outside out depth t0 t1))
      (and_i (out t0) (out t1 && mids_outside out depth t0 t1) (outer t0 s0)
      (and_i (out t1) (mids_outside out depth t0 t1) (outer t1 s1) (mids depth t0 t1 w0 w1 s0 s1)))

-- ---- the two outer sides
or_l : (a b : Bool) → T a → T (a || b)
or_l true b t = tt
or_l false b t = absurd t

or_r : (a b : Bool) → T b → T (a || b)
or_r true b t = tt
or_r false b t = t

module _ (s : Stretch) where
  before_side : Side (before_of s)
  unfolding before_of mid_of
  before_side x y wx wy h j =
      let p = s.low in
      let q = s.below in
      and_i (le (mid_of x y) p) (lt (mid_of x y) q)
      (mid_le x y wx wy p (and_l (le x p) (lt x q) h) (and_l (le y p) (lt y q) j))
      (mid_lt x y wx wy q (and_r (le x p) (lt x q) h) (and_r (le y p) (lt y q) j))

  after_side : Side (after_of s)
  unfolding after_of mid_of
  after_side x y wx wy h j = lt_mid x y wx wy s.high h j

  module _ (t0 t1 : Float) (w0 : Within t0) (w1 : Within t1) where
    pub before_clear : before_of s t0 ≡ true → before_of s t1 ≡ true → clear_of (outside_of s) t0 t1 ≡ true
    unfolding outside_of
    before_clear h j =
        side_clear (before_of s) (outside_of s) before_side (λ t b. or_l (before_of s t) (after_of s t) b) t0 t1 w0 w1
        (subst T (sym h) tt) (subst T (sym j) tt)

    pub after_clear : after_of s t0 ≡ true → after_of s t1 ≡ true → clear_of (outside_of s) t0 t1 ≡ true
    unfolding outside_of
    after_clear h j =
        side_clear (after_of s) (outside_of s) after_side (λ t a. or_r (before_of s t) (after_of s t) a) t0 t1 w0 w1
        (subst T (sym h) tt) (subst T (sym j) tt)
