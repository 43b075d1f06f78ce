-- The points are f32, where the lent positions are and the record's points are; and what else holds of each of both lists holds of each point. Assumes nothing.
use mathlib.Core.Bool.{Bool, true, false, cond}
use mathlib.Core.List.{List, [], ◌∷◌, ◌++◌}
use Prim.Native.Nat.{ℕ, zero, suc, ◌<◌}
use native.Mathlib.Omega.{arith}
use lib.Dec.{T}
use lib.ListN.{length, get_or}
use lib.Ieee.{Float, nan, binary32, fits, neg, eq, lt}
use lib.Ieee.Bits.{of_bits-fits}
use lib.Ieee.Fits.{cond-fits, neg-fits}
use Rattle.float.specs.F32.{f0}
use Rattle.slices.specs.Joined.{joined}
use Rattle.stops.specs.Stops.{pos_at}
use Rattle.ordinary.specs.Ordinary.{Singles}
use Rattle.weighed.specs.Points.{Site, site, sampled_mark, beside_mark, lent_mark, sites_by, own_of, inside, merged}
use Rattle.float.specs.Number.{above_of, below_of}
use Rattle.weighed.proofs.Merging.{Each, each_joined}

-- ---- of each number of a list
abbrev pub Every : (Float → Type 0) → List Float → Type 0
Every P [] = Unit {0}
Every P (t ∷ ts) = P t × Every P ts

module _ (P : Float → Type 0) where
  pub every_at : (ts : List Float) (i : ℕ) → Every P ts → i < length ts → P (get_or ts i nan)
  every_at [] i w l = absurd (omega arith)
  every_at (t ∷ ts) zero w l = w.0
  every_at (t ∷ ts) (suc i) w l = every_at ts i w.1 (omega arith)

  pub every_both : (xs ys : List Float) → Every P xs → Every P ys → Every P (xs ++ ys)
  every_both [] ys v w = w
  every_both (x ∷ xs) ys v w = (v.0, every_both xs ys v.1 w)

  pub every_joined : (f : ℕ → List Float) (n : ℕ) → ((i : ℕ) → i < n → Every P (f i)) → Every P (joined f n)
  unfolding joined
  every_joined f zero h = tt
  every_joined f (suc n) h = every_both (joined f n) (f n) (every_joined f n (λ i l. h i (omega arith))) (h n (omega arith))

-- ---- of each point
pick : (P : List Site → Type 0) (b : Bool) (x y : List Site) → P x → P y → P (cond b x y)
pick P true x y p q = p
pick P false x y p q = q

module _ (P : Site → Type 0) where
  each_by : (f : Float → Float) (m : ℕ) (ps : List Float) → ((k : ℕ) → k < length ps → P (site (f (pos_at ps k)) m)) → Each P (sites_by f m ps)
  unfolding sites_by
  each_by f m [] h = tt
  each_by f m (p ∷ ps) h = (h 0 (omega arith), each_by f m ps (λ k l. h (suc k) (omega arith)))

  pub each_then : (Q : Site → Type 0) → ((s : Site) → P s → Q s) → (ss : List Site) → Each P ss → Each Q ss
  each_then Q f [] w = tt
  each_then Q f (s ∷ ss) w = (f s w.0, each_then Q f ss w.1)

  -- of the lent positions and their neighbours
  pub each_own : (ps : List Float) → ((k : ℕ) → k < length ps → P (site (below_of (pos_at ps k)) beside_mark))
      → ((k : ℕ) → k < length ps → P (site (above_of (pos_at ps k)) beside_mark)) → ((k : ℕ) → k < length ps → P (site (pos_at ps k) lent_mark)) → Each P (own_of ps)
  unfolding own_of
  each_own ps b a l =
      each_joined P _ _ (each_joined P _ _ (each_by below_of beside_mark ps b) (each_by above_of beside_mark ps a)) (each_by (λ p. p) lent_mark ps l)

  -- of the points of both
  pub each_merged : (max : Float) (n : ℕ) (last : Float) (ts : List Float) (os : List Site) → Every (λ t. P (site t sampled_mark)) ts → Each P os → Each P (merged max n last ts os)
  unfolding merged
  each_merged max zero last ts os v w = tt
  each_merged max (suc n) last [] [] v w = tt
  each_merged max (suc n) last (t ∷ ts) [] v w =
      pick (Each P) (inside max last t) _ _ (v.0, each_merged max n t ts [] v.1 w) (each_merged max n last ts [] v.1 w)
  each_merged max (suc n) last [] (o ∷ os) v w =
      pick (Each P) (inside max last o.t) _ _ (w.0, each_merged max n o.t [] os v w.1) (each_merged max n last [] os v w.1)
  each_merged max (suc n) last (t ∷ ts) (o ∷ os) v w =
      pick (Each P) (inside max last t) _ _
      (pick (Each P) (inside max last o.t) _ _
      (pick (Each P) (lt t o.t) _ _ (v.0, each_merged max n t ts (o ∷ os) v.1 w) (w.0, each_merged max n o.t (t ∷ ts) os v w.1))
      (each_merged max n last (t ∷ ts) os v w.1))
      (each_merged max n last ts (o ∷ os) v.1 w)

-- ---- f32
abbrev pub Single : Float → Type 0
Single x = T (fits binary32 x)

pub every_of : (l : List Float) → Singles l → Every Single l
every_of [] w = tt
every_of (x ∷ l) w = (w 0 (omega arith), every_of l (λ i h. w (suc i) (omega arith)))

pub above_single : (x : Float) → Single (above_of x)
unfolding above_of
above_single x =
    cond-fits binary32 (eq x f0) _ _ (of_bits-fits binary32 1) (cond-fits binary32 (lt x f0) _ _ (neg-fits binary32 _ (of_bits-fits binary32 _)) (of_bits-fits binary32 _))

pub below_single : (x : Float) → Single (below_of x)
unfolding below_of
below_single x = neg-fits binary32 (above_of (neg x)) (above_single (neg x))

pub own_single : (ps : List Float) → Singles ps → Each (λ s. Single s.t) (own_of ps)
own_single ps w = each_own (λ s. Single s.t) ps (λ k l. below_single (pos_at ps k)) (λ k l. above_single (pos_at ps k)) w
