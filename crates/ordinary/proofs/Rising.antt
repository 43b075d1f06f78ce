-- The points of a fresh sampling never fall: the ends of the cells rise with their number, and the midpoints of a cell lie between its ends. Of any colours and any domain within ±1e38. Assumes nothing.
use mathlib.Core.Path.{◌≡◌, refl, sym, ap, ◌∙◌, subst}
use mathlib.Core.Bool.{Bool, true, ◌&&◌}
use mathlib.Core.List.{List, [], ◌∷◌}
use Prim.Native.Nat.{ℕ, zero, suc, ◌+◌, ◌*◌, ◌≤◌, ◌<◌}
use native.Mathlib.Decide.{dec_le}
use native.Mathlib.Nat.{lt_of_not-le}
use native.Mathlib.Numerals.{add-one}
use native.Mathlib.Omega.{arith}
use lib.Dec.{T}
use lib.ListN.{take, drop}
use lib.Seq.{take-take, take-append_seam}
use lib.Ieee.{Float, binary32, round, add, sub, mul, div, neg, of_int, of_bits, fits, le}
use lib.Ieee.Fits.{and_l, and_r}
use lib.Ieee.Scale.{finite}
use Rattle.float.specs.F32.{◌⊕◌, ◌⊖◌, ◌⊗◌, ◌⊘◌, f0, f1}
use Rattle.float.specs.Number.{count_of, top, Within}
use Rattle.float.proofs.Order as order
use Rattle.float.proofs.Rounding.{no_con, dens_pos, add_mono, sub_mono, sub_rising, mul_mono}
use Rattle.float.proofs.Spans.{rounded_above}
use Rattle.float.proofs.SignedRound.{add_rounds}
use Rattle.slices.specs.Joined.{joined}
use Rattle.slices.proofs.Joined.{joined_next}
use Rattle.sampling.specs.Constants.{cells, depth, farthest}
use Rattle.sampling.specs.Midpoints.{Gradient, Far, halves}
use Rattle.sampling.specs.Cells.{edge_of, points_of, row_of, cell_row, cell_count, rows_of, counts_of}
use Rattle.sampling.proofs.Rows.{cell_count_most}
use Rattle.places.specs.Places.{row_points, list_of}
use Rattle.refresh.specs.reach.KeptCells.{is_domain}
use Rattle.refresh.proofs.reach.Domains.{end_within}
use Rattle.refresh.proofs.Agree.{row_at, count_at}
use Rattle.ordinary.proofs.Climbing.{Climbs, to_higher, then, within_number, halves_climb}

-- ---- how far along an end is: it never falls, tested once for all
abbrev pub along : ℕ → Float
along i = count_of i ⊘ count_of cells

unfoldable proper : ℕ → Bool
proper i = finite (along i) && (finite (along (suc i)) && (le f0 (along i) && (le (along i) (along (suc i)) && le (along (suc i)) f1)))

unfoldable all : ℕ → Bool
all zero = true
all (suc n) = proper n && all n

tested : T (all 36)
unfolding all proper of_bits of_int div round le
tested = tt

look : (n i : ℕ) → T (all n) → i < n → T (proper i)
unfolding all
look zero i h l = absurd (omega arith)
look (suc n) i h l = go (dec_le n i) (look n i (and_r (proper n) (all n) h))
  where
    go : Dec (n ≤ i) → (i < n → T (proper i)) → T (proper i)
    go (yes p) f = let e : n ≡ i = omega arith in subst (λ (j : ℕ). T (proper j)) e (and_l (proper n) (all n) h)
    go (no p) f = f (lt_of_not-le p)

record Step (i : ℕ) : Type 0 where
  here : T (finite (along i))
  there : T (finite (along (suc i)))
  start : T (le f0 (along i))
  up : T (le (along i) (along (suc i)))
  end : T (le (along (suc i)) f1)

step : (i : ℕ) → i < 36 → Step i
unfolding proper
step i l =
    let a = finite (along i) in
    let b = finite (along (suc i)) in
    let c = le f0 (along i) in
    let d = le (along i) (along (suc i)) in
    let e = le (along (suc i)) f1 in
    let t = look 36 i tested l in
    let u = and_r a (b && (c && (d && e))) t in
    let v = and_r b (c && (d && e)) u in
    let w = and_r c (d && e) v in
    record { here = and_l a (b && (c && (d && e))) t; there = and_l b (c && (d && e)) u; start = and_l c (d && e) v; up = and_l d e w; end = and_r d e w }

-- ---- the ends of the cells
numbers : T (finite f0) × T (finite f1) × T (finite farthest) × T (finite (neg farthest)) × T (finite (farthest ⊖ neg farthest)) × T (finite ((farthest ⊖ neg farthest) ⊗ f1)) × T (le f0 f0) × T (le f0 (f0 ⊗ f0))
unfolding of_bits neg add sub mul round le
numbers = (tt, tt, tt, tt, tt, tt, tt, tt)

tops : T (finite top) × T (finite (neg top))
unfolding of_bits neg
tops = (tt, tt)

module _ (lo hi : Float) (domain : is_domain lo hi ≡ true) where
  -- what a domain is
  pub ends : T (le (neg farthest) lo) × T (le lo hi) × T (le hi farthest)
  unfolding is_domain
  ends =
      let a = le (neg farthest) lo in
      let b = le lo hi in
      let c = le hi farthest in
      let t : T (a && (b && c)) = subst T (sym domain) tt in
      let u = and_r a (b && c) t in
      (and_l a (b && c) t, and_l b c u, and_r b c u)

  pub low_finite : T (finite lo)
  low_finite = order.finite_between (neg farthest) lo farthest numbers.3 numbers.2 ends.0 (order.le_trans lo hi farthest ends.1 ends.2)

  pub high_finite : T (finite hi)
  high_finite = order.finite_between (neg farthest) hi farthest numbers.3 numbers.2 (order.le_trans (neg farthest) lo hi ends.0 ends.1) ends.2

  abbrev span : Float
  span = hi ⊖ lo

  pub span_low : T (le f0 span)
  span_low = sub_rising lo hi low_finite high_finite ends.1

  span_high : T (le span (farthest ⊖ neg farthest))
  span_high = sub_mono hi lo farthest (neg farthest) high_finite low_finite numbers.2 numbers.3 ends.2 ends.0

  pub span-finite : T (finite span)
  span-finite = order.finite_between f0 span (farthest ⊖ neg farthest) numbers.0 numbers.4 span_low span_high

  pub part_finite : (q : Float) → T (finite q) → T (le f0 q) → T (le q f1) → T (finite (span ⊗ q))
  part_finite q fq n m =
      order.finite_between f0 (span ⊗ q) ((farthest ⊖ neg farthest) ⊗ f1) numbers.0 numbers.5
      (order.le_trans f0 (f0 ⊗ f0) (span ⊗ q) numbers.7 (mul_mono f0 f0 span q numbers.0 numbers.0 span-finite fq numbers.6 numbers.6 span_low n))
      (mul_mono span q (farthest ⊖ neg farthest) f1 span-finite fq numbers.4 numbers.1 span_low n span_high m)

  pub edge_rises : (i : ℕ) → i < 36 → T (le (edge_of lo hi i) (edge_of lo hi (suc i)))
  unfolding edge_of
  edge_rises i l =
      let s = step i l in
      let p = part_finite (along i) s.here s.start (order.le_trans (along i) (along (suc i)) f1 s.up s.end) in
      let q = part_finite (along (suc i)) s.there (order.le_trans f0 (along i) (along (suc i)) s.start s.up) s.end in
      add_mono lo (span ⊗ along i) lo (span ⊗ along (suc i)) low_finite p low_finite q (order.le_refl lo (order.no_nan_r (neg farthest) lo ends.0))
      (mul_mono span (along i) span (along (suc i)) span-finite s.here span-finite s.there span_low s.start (order.le_refl span (order.no_nan_r f0 span span_low)) s.up)

  pub edge_in : (i : ℕ) → i ≤ 36 → Within (edge_of lo hi i)
  edge_in i l = end_within lo hi domain (edge_of lo hi i) i l refl

  pub edge_finite : (i : ℕ) → i ≤ 36 → T (finite (edge_of lo hi i))
  edge_finite i l =
      let w = edge_in i l in
      order.finite_between (neg top) (edge_of lo hi i) top tops.1 tops.0 (order.lt→le (neg top) (edge_of lo hi i) w.low) (order.lt→le (edge_of lo hi i) top w.high)

  -- the first of them is min
  pub edge_first : T (fits binary32 lo) → T (le lo (edge_of lo hi 0))
  unfolding edge_of
  edge_first single =
      let s = step 0 (omega arith) in
      let q = along 0 in
      let whole = part_finite q s.here s.start (order.le_trans q (along 1) f1 s.up s.end) in
      let low = order.le_trans f0 (f0 ⊗ f0) (span ⊗ q) numbers.7 (mul_mono f0 f0 span q numbers.0 numbers.0 span-finite s.here numbers.6 numbers.6 span_low s.start) in
      rounded_above lo (lo ⊕ span ⊗ q) single low_finite _ _ _ (add_rounds lo (span ⊗ q) low_finite whole) (dens_pos lo (span ⊗ q)) (rw (no_con (span ⊗ q) whole low) (omega arith))

  -- ---- the points
  module _ (g : Gradient) (far : Far) where
    abbrev rows : List Float
    rows = rows_of g far lo hi

    abbrev counts : List ℕ
    counts = counts_of g far lo hi

    cell_points : (i : ℕ) → take (cell_count g far lo hi i) (cell_row g far lo hi i) ≡ points_of g far (edge_of lo hi i) (edge_of lo hi (i + 1))
    unfolding cell_row cell_count row_of
    cell_points i = take-append_seam (points_of g far (edge_of lo hi i) (edge_of lo hi (i + 1))) _

    pub row_points_lem : (i : ℕ) → i < 36 → row_points rows counts i ≡ points_of g far (edge_of lo hi i) (edge_of lo hi (i + 1))
    row_points_lem i l =
        rw (count_at g far lo hi i l)
        (sym (take-take (cell_count g far lo hi i) 128 (drop (i * 128) rows) (cell_count_most g far lo hi i)) ∙ ap (take (cell_count g far lo hi i)) (row_at g far lo hi i l) ∙ cell_points i)

    -- a cell's points climb from its left end to b, if the midpoints kept do
    row_climbs : (i : ℕ) (b : Float) → i < 36 → Climbs (edge_of lo hi i) (halves g far depth (edge_of lo hi i) (edge_of lo hi (i + 1))) b → Climbs (edge_of lo hi i) (row_points rows counts i) b
    unfolding points_of
    row_climbs i b l h = rw (row_points_lem i l) (order.le_refl (edge_of lo hi i) (within_number (edge_of lo hi i) (edge_in i (omega arith))), h)

    cells_climb : (n : ℕ) → n ≤ 36 → Climbs (edge_of lo hi 0) (joined (row_points rows counts) n) (edge_of lo hi n)
    unfolding joined
    cells_climb zero l = order.le_refl (edge_of lo hi 0) (within_number (edge_of lo hi 0) (edge_in 0 l))
    cells_climb (suc n) l =
        then (edge_of lo hi 0) (edge_of lo hi n) (edge_of lo hi (suc n)) (joined (row_points rows counts) n) (row_points rows counts n) (cells_climb n (omega arith))
        (row_climbs n (edge_of lo hi (suc n)) l (rw add-one (halves_climb g far depth (edge_of lo hi n) (edge_of lo hi (suc n)) (edge_in n (omega arith)) (edge_in (suc n) l) (edge_rises n l))))

    -- the last cell stays below max: then all points do
    pub points_climb : Climbs (edge_of lo hi 35) (halves g far depth (edge_of lo hi 35) (edge_of lo hi 36)) hi → Climbs (edge_of lo hi 0) (list_of rows counts hi) hi
    unfolding list_of
    points_climb h =
        let number = order.no_nan_r lo hi ends.1 in
        let all_rows : Climbs (edge_of lo hi 0) (joined (row_points rows counts) 36) hi =
        subst (λ (l : List Float). Climbs (edge_of lo hi 0) l hi) (joined_next (row_points rows counts) 35)
        (then (edge_of lo hi 0) (edge_of lo hi 35) hi (joined (row_points rows counts) 35) (row_points rows counts 35) (cells_climb 35 (omega arith)) (row_climbs 35 hi (omega arith) h)) in
        then (edge_of lo hi 0) hi hi (joined (row_points rows counts) 36) (hi ∷ []) all_rows (order.le_refl hi number, order.le_refl hi number)

    -- where its end is no more than max
    pub ends_in : T (le (edge_of lo hi 36) hi) → Climbs (edge_of lo hi 35) (halves g far depth (edge_of lo hi 35) (edge_of lo hi 36)) hi
    ends_in h =
        to_higher (edge_of lo hi 35) (edge_of lo hi 36) hi (halves g far depth (edge_of lo hi 35) (edge_of lo hi 36))
        (halves_climb g far depth (edge_of lo hi 35) (edge_of lo hi 36) (edge_in 35 (omega arith)) (edge_in 36 (omega arith)) (edge_rises 35 (omega arith))) h
