-- Lists that never fall: what they are, and that the points of a fresh sampling, and those of them that thinning keeps, are such, whatever the colours are. Assumes nothing.
use mathlib.Core.Path.{◌≡◌}
use mathlib.Core.Bool.{Bool, true, false, cond}
use mathlib.Core.List.{List, [], ◌∷◌, ◌++◌}
use Prim.Native.Nat.{ℕ, zero, suc, ◌≤◌, ◌<◌}
use native.Mathlib.Omega.{arith}
use lib.Dec.{T}
use lib.ListN.{length, get_or}
use lib.Ieee.{Float, nan, le, is_nan}
use Rattle.float.specs.Number.{Within}
use Rattle.float.proofs.Order as order
use Rattle.sampling.specs.Midpoints.{Gradient, Far, mid_of, keeps, halves}
use Rattle.thinning.specs.Kept.{stays, thinned, kept_of}
use Rattle.float.proofs.Midpoint.{mid_le, le_mid, mid_within}

-- from a, through xs, to b, and never down
abbrev pub Climbs : Float → List Float → Float → Type 0
Climbs a [] b = T (le a b)
Climbs a (x ∷ xs) b = T (le a x) × Climbs x xs b

pub join_at : (a m b : Float) (xs ys : List Float) → Climbs a xs m → Climbs m ys b → Climbs a (xs ++ m ∷ ys) b
join_at a m b [] ys h k = (h, k)
join_at a m b (x ∷ xs) ys h k = (h.0, join_at x m b xs ys h.1 k)

pub from_lower : (a c b : Float) (xs : List Float) → T (le a c) → Climbs c xs b → Climbs a xs b
from_lower a c b [] l h = order.le_trans a c b l h
from_lower a c b (x ∷ xs) l h = (order.le_trans a c x l h.0, h.1)

pub to_higher : (a b c : Float) (xs : List Float) → Climbs a xs b → T (le b c) → Climbs a xs c
to_higher a b c [] h l = order.le_trans a b c h l
to_higher a b c (x ∷ xs) h l = (h.0, to_higher x b c xs h.1 l)

pub then : (a m b : Float) (xs ys : List Float) → Climbs a xs m → Climbs m ys b → Climbs a (xs ++ ys) b
then a m b [] ys h k = from_lower a m b ys h k
then a m b (x ∷ xs) ys h k = (h.0, then x m b xs ys h.1 k)

-- the way up as a whole
pub rises : (a b : Float) (xs : List Float) → Climbs a xs b → T (le a b)
rises a b [] h = h
rises a b (x ∷ xs) h = order.le_trans a x b h.0 (rises x b xs h.1)

-- item i lies from a to b, and no later one is below it
pub item_low : (a b : Float) (xs : List Float) → Climbs a xs b → (i : ℕ) → i < length xs → T (le a (get_or xs i nan))
item_low a b [] h i l = absurd (omega arith)
item_low a b (x ∷ xs) h zero l = h.0
item_low a b (x ∷ xs) h (suc i) l = order.le_trans a x (get_or xs i nan) h.0 (item_low x b xs h.1 i (omega arith))

pub item_high : (a b : Float) (xs : List Float) → Climbs a xs b → (i : ℕ) → i < length xs → T (le (get_or xs i nan) b)
item_high a b [] h i l = absurd (omega arith)
item_high a b (x ∷ xs) h zero l = rises x b xs h.1
item_high a b (x ∷ xs) h (suc i) l = item_high x b xs h.1 i (omega arith)

pub in_order : (a b : Float) (xs : List Float) → Climbs a xs b → (i j : ℕ) → i ≤ j → j < length xs → T (le (get_or xs i nan) (get_or xs j nan))
in_order a b [] h i j l m = absurd (omega arith)
in_order a b (x ∷ xs) h zero zero l m = order.le_refl x (order.no_nan_r a x h.0)
in_order a b (x ∷ xs) h zero (suc j) l m = item_low x b xs h.1 j (omega arith)
in_order a b (x ∷ xs) h (suc i) zero l m = absurd (omega arith)
in_order a b (x ∷ xs) h (suc i) (suc j) l m = in_order x b xs h.1 i j (omega arith) (omega arith)

-- ---- the midpoints kept
pub within_number : (x : Float) → Within x → is_nan x ≡ false
within_number x w = order.no_nan_l x _ (order.lt→le x _ w.high)

if_kept : (b : Bool) (t0 m t1 : Float) (xs ys : List Float) → T (le t0 t1) → Climbs t0 xs m → Climbs m ys t1 → Climbs t0 (cond b (xs ++ m ∷ ys) []) t1
if_kept true t0 m t1 xs ys l h k = join_at t0 m t1 xs ys h k
if_kept false t0 m t1 xs ys l h k = l

module _ (g : Gradient) (far : Far) where
  pub halves_climb : (n : ℕ) (t0 t1 : Float) → Within t0 → Within t1 → T (le t0 t1) → Climbs t0 (halves g far n t0 t1) t1
  unfolding halves mid_of
  halves_climb zero t0 t1 w0 w1 l = l
  halves_climb (suc n) t0 t1 w0 w1 l =
      let m = mid_of t0 t1 in
      let w : Within m = mid_within t0 t1 w0 w1 in
      let low : T (le t0 m) = le_mid t0 t1 w0 w1 t0 (order.le_refl t0 (within_number t0 w0)) l in
      let high : T (le m t1) = mid_le t0 t1 w0 w1 t1 l (order.le_refl t1 (within_number t1 w1)) in
      if_kept (keeps g far t0 t1) t0 m t1 (halves g far n t0 m) (halves g far n m t1) l (halves_climb n t0 m w0 w low) (halves_climb n m t1 w w1 high)

  -- ---- the points that thinning keeps
  kept_or_not : (s : Bool) (a b x y : Float) (rest : List Float) → T (le a x) → T (le x y)
      → (Climbs (cond s x a) (y ∷ rest) b → Climbs (cond s x a) (thinned g far (cond s x a) (y ∷ rest)) b)
      → Climbs y rest b → Climbs a (cond s (x ∷ []) [] ++ thinned g far (cond s x a) (y ∷ rest)) b
  kept_or_not true a b x y rest h k ih c = (h, ih (k, c))
  kept_or_not false a b x y rest h k ih c = ih (order.le_trans a x y h k, c)

  pub thinned_climb : (a b : Float) (ts : List Float) → Climbs a ts b → Climbs a (thinned g far a ts) b
  unfolding thinned
  thinned_climb a b [] h = h
  thinned_climb a b (x ∷ []) h = h
  thinned_climb a b (x ∷ y ∷ rest) h =
      kept_or_not (stays g far a x y) a b x y rest h.0 h.1.0 (thinned_climb (cond (stays g far a x y) x a) b (y ∷ rest)) h.1.1

  pub kept_climb : (a b : Float) (ts : List Float) → Climbs a ts b → Climbs a (kept_of g far ts) b
  unfolding kept_of
  kept_climb a b [] h = h
  kept_climb a b (p ∷ ps) h = (h.0, thinned_climb p b ps h.1)
