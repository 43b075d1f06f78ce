-- The points of a fresh sampling are f32, and so are those of them that thinning keeps: each is a rounded sum or quotient, or max. Assumes nothing.
use mathlib.Core.Path.{◌≡◌}
use mathlib.Core.Bool.{Bool, true, false, cond}
use mathlib.Core.List.{List, [], ◌∷◌, ◌++◌}
use Prim.Native.Nat.{ℕ, zero, suc, ◌+◌, ◌≤◌, ◌<◌}
use native.Mathlib.Omega.{arith}
use lib.Dec.{T}
use lib.ListN.{length, get_or}
use lib.Ieee.{Float, nan, binary32, fits}
use lib.Ieee.Fits.{add-fits, div-fits}
use Rattle.slices.specs.Joined.{joined}
use Rattle.sampling.specs.Constants.{depth}
use Rattle.sampling.specs.Midpoints.{Gradient, Far, mid_of, keeps, halves}
use Rattle.sampling.specs.Cells.{edge_of, points_of, rows_of, counts_of}
use Rattle.places.specs.Places.{row_points, list_of}
use Rattle.refresh.specs.reach.KeptCells.{is_domain}
use Rattle.thinning.specs.Kept.{stays, thinned, kept_of}
use Rattle.ordinary.proofs.Rising.{row_points_lem}

-- every number of a list is an f32
unfoldable pub AllSingle : List Float → Type 0
AllSingle [] = Unit {0}
AllSingle (x ∷ xs) = T (fits binary32 x) × AllSingle xs

pub item_single : (xs : List Float) → AllSingle xs → (i : ℕ) → i < length xs → T (fits binary32 (get_or xs i nan))
unfolding AllSingle
item_single [] h i l = absurd (omega arith)
item_single (x ∷ xs) h zero l = h.0
item_single (x ∷ xs) h (suc i) l = item_single xs h.1 i (omega arith)

then : (xs ys : List Float) → AllSingle xs → AllSingle ys → AllSingle (xs ++ ys)
unfolding AllSingle
then [] ys h k = k
then (x ∷ xs) ys h k = (h.0, then xs ys h.1 k)

-- ---- the points of a sampling
module _ (g : Gradient) (far : Far) where
  if_kept : (b : Bool) (xs ys : List Float) (m : Float) → AllSingle xs → T (fits binary32 m) → AllSingle ys → AllSingle (cond b (xs ++ m ∷ ys) [])
  unfolding AllSingle
  if_kept true xs ys m h f k = then xs (m ∷ ys) h (f, k)
  if_kept false xs ys m h f k = tt

  halves_single : (n : ℕ) (t0 t1 : Float) → AllSingle (halves g far n t0 t1)
  unfolding AllSingle halves mid_of
  halves_single zero t0 t1 = tt
  halves_single (suc n) t0 t1 =
      let m = mid_of t0 t1 in
      if_kept (keeps g far t0 t1) (halves g far n t0 m) (halves g far n m t1) m (halves_single n t0 m) (div-fits binary32 _ _) (halves_single n m t1)

  module _ (lo hi : Float) (domain : is_domain lo hi ≡ true) (single : T (fits binary32 hi)) where
    row_single : (i : ℕ) → i < 36 → AllSingle (row_points (rows_of g far lo hi) (counts_of g far lo hi) i)
    unfolding AllSingle points_of edge_of
    row_single i l = rw (row_points_lem lo hi domain g far i l) (add-fits binary32 _ _, halves_single depth (edge_of lo hi i) (edge_of lo hi (i + 1)))

    rows_single : (n : ℕ) → n ≤ 36 → AllSingle (joined (row_points (rows_of g far lo hi) (counts_of g far lo hi)) n)
    unfolding AllSingle joined
    rows_single zero l = tt
    rows_single (suc n) l = then (joined (row_points (rows_of g far lo hi) (counts_of g far lo hi)) n) _ (rows_single n (omega arith)) (row_single n l)

    pub points_single : AllSingle (list_of (rows_of g far lo hi) (counts_of g far lo hi) hi)
    unfolding AllSingle list_of
    points_single = then (joined (row_points (rows_of g far lo hi) (counts_of g far lo hi)) 36) (hi ∷ []) (rows_single 36 (omega arith)) (single, tt)

  -- ---- the points that thinning keeps
  some_kept : (b : Bool) (x : Float) (xs : List Float) → T (fits binary32 x) → AllSingle xs → AllSingle (cond b (x ∷ []) [] ++ xs)
  unfolding AllSingle
  some_kept true x xs f h = (f, h)
  some_kept false x xs f h = h

  pub thinned_single : (a : Float) (ts : List Float) → AllSingle ts → AllSingle (thinned g far a ts)
  unfolding AllSingle thinned
  thinned_single a [] h = h
  thinned_single a (x ∷ []) h = h
  thinned_single a (x ∷ y ∷ rest) h = some_kept (stays g far a x y) x (thinned g far (cond (stays g far a x y) x a) (y ∷ rest)) h.0 (thinned_single (cond (stays g far a x y) x a) (y ∷ rest) h.1)

  pub kept_single : (ts : List Float) → AllSingle ts → AllSingle (kept_of g far ts)
  unfolding AllSingle kept_of
  kept_single [] h = h
  kept_single (p ∷ ps) h = (h.0, thinned_single p ps h.1)
