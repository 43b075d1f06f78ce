-- The points of a fresh sampling: f32 of the domain, each led by what is no more than it; and of a domain from 0 to 1 none is -0. Assumes nothing.
use mathlib.Core.Path.{◌≡◌, refl, ap, ◌∙◌, subst}
use mathlib.Core.Bool.{Bool, true, false, not, cond}
use mathlib.Core.List.{List, [], ◌∷◌}
use mathlib.Core.Logic.{inl, inr}
use Prim.Native.Nat.{ℕ, zero, suc, ◌+◌, ◌-◌, ◌*◌, ◌/◌, ◌%◌, ◌^◌, ◌<◌, compare}
use native.Mathlib.Omega.{arith}
use lib.Dec.{T, ltb, eqb}
use lib.ListN.{length, get_or, length-append, get_or-append}
use lib.Ieee.{Float, nan, inf, fin, binary32, up, down, size, nearest, round, units, odd, of_int, of_bits, add, sub, sum, mul, div, le}
use lib.Ieee.Fits.{add-fits, div-fits}
use Rattle.float.specs.F32.{◌⊕◌, ◌⊖◌, ◌⊗◌, ◌⊘◌, f0, f1, f2}
use Rattle.float.specs.Number.{count_of}
use Rattle.float.proofs.Order.{le_trans}
use Rattle.slices.specs.Joined.{joined, summed}
use Rattle.slices.proofs.Joined.{length-summed, summed_mono, item}
use Rattle.sampling.specs.Constants.{cells, depth}
use Rattle.sampling.specs.Midpoints.{Gradient, Far, mid_of, keeps, halves}
use Rattle.sampling.specs.Cells.{edge_of, points_of, rows_of, counts_of}
use Rattle.places.specs.Places.{row_points, list_of}
use Rattle.refresh.specs.reach.KeptCells.{is_domain}
use Rattle.ordinary.proofs.Climbing.{Climbs, item_low, item_high}
use Rattle.ordinary.proofs.Rising.{edge_first, row_points_lem, points_climb}
use Rattle.ordinary.proofs.LastCell.{last_cell}
use Rattle.weighed.proofs.Merging.{LedBy}
use Rattle.word.proofs.Singles.{Every, every_at, every_both, every_joined, Single}

-- ---- what never falls leads
pub climbs_led : (a b : Float) (ts : List Float) → Climbs a ts b → (k : ℕ) → k < length ts → LedBy (get_or ts k nan) ts
climbs_led a b [] h k l = absurd (omega arith)
climbs_led a b (t ∷ ts) h zero l = inl refl
climbs_led a b (t ∷ ts) h (suc k) l = inr (item_low t b ts h.1 k (omega arith), climbs_led t b ts h.1 k (omega arith))

-- ---- what holds of both ends of a cell, and of the middle of two of which it holds, holds of its points
module _ (P : Float → Type 0) (mid : (a b : Float) → P a → P b → P (mid_of a b)) (g : Gradient) (far : Far) where
  if_kept : (b : Bool) (xs : List Float) → Every P xs → Every P (cond b xs [])
  if_kept true xs w = w
  if_kept false xs w = tt

  halves_every : (n : ℕ) (t0 t1 : Float) → P t0 → P t1 → Every P (halves g far n t0 t1)
  unfolding halves
  halves_every zero t0 t1 p q = tt
  halves_every (suc n) t0 t1 p q =
      let m = mid_of t0 t1 in
      let r = mid t0 t1 p q in
      if_kept (keeps g far t0 t1) _ (every_both P (halves g far n t0 m) (m ∷ halves g far n m t1) (halves_every n t0 m p r) (r, halves_every n m t1 r q))

  pub points_every : (t0 t1 : Float) → P t0 → P t1 → Every P (points_of g far t0 t1)
  unfolding points_of
  points_every t0 t1 p q = (p, halves_every depth t0 t1 p q)

pub mid_single : (a b : Float) → Single (mid_of a b)
unfolding mid_of
mid_single a b = div-fits binary32 (a ⊕ b) f2

pub edge_single : (lo hi : Float) (i : ℕ) → Single (edge_of lo hi i)
unfolding edge_of
edge_single lo hi i = add-fits binary32 lo _

-- ---- no sign
abbrev pub Plus : Float → Type 0
Plus nan = Unit {0}
Plus (inf s) = T (not s)
Plus (fin s m e) = T (not s)

pick : (b : Bool) (x y : Float) → Plus x → Plus y → Plus (cond b x y)
pick true x y p q = p
pick false x y p q = q

odd_plus : (d q k l : ℕ) → Plus (odd d false q k l)
unfolding odd
odd_plus d zero k l = tt
odd_plus d (suc q) k l = tt

units_plus : (q k : ℕ) → Plus (units binary32 false q k)
unfolding units
units_plus q k = pick (ltb (q * 2 ^ k) (2 ^ (149 + 128))) (odd 25 false q k 149) (inf false) (odd_plus 25 q k 149) tt

round_plus : (n d : ℕ) → Plus (round binary32 false n d)
unfolding round
round_plus n d =
    let w = n * 2 ^ 149 in
    let k = size (w / d) - 24 in
    let u = d * 2 ^ k in
    units_plus (nearest (w / u) (compare (w % u * 2) u)) k

add_plus : (x y : Float) → Plus x → Plus y → Plus (x ⊕ y)
unfolding add sum
add_plus nan y p q = tt
add_plus (inf s) nan p q = tt
add_plus (inf true) (inf t) p q = absurd p
add_plus (inf false) (inf true) p q = absurd q
add_plus (inf false) (inf false) p q = tt
add_plus (inf s) (fin t n d) p q = p
add_plus (fin s m e) nan p q = tt
add_plus (fin s m e) (inf t) p q = q
add_plus (fin true m e) (fin t n d) p q = absurd p
add_plus (fin false m e) (fin true n d) p q = absurd q
add_plus (fin false m e) (fin false n d) p q = round_plus (m * up e * down d + n * up d * down e) (down e * down d)

mul_plus : (x y : Float) → Plus x → Plus y → Plus (x ⊗ y)
unfolding mul
mul_plus nan y p q = tt
mul_plus (inf s) nan p q = tt
mul_plus (inf true) (inf t) p q = absurd p
mul_plus (inf false) (inf true) p q = absurd q
mul_plus (inf false) (inf false) p q = tt
mul_plus (inf true) (fin t n d) p q = absurd p
mul_plus (inf false) (fin true n d) p q = absurd q
mul_plus (inf false) (fin false n d) p q = pick (eqb n 0) nan (inf false) tt tt
mul_plus (fin s m e) nan p q = tt
mul_plus (fin true m e) (inf t) p q = absurd p
mul_plus (fin false m e) (inf true) p q = absurd q
mul_plus (fin false m e) (inf false) p q = pick (eqb m 0) nan (inf false) tt tt
mul_plus (fin true m e) (fin t n d) p q = absurd p
mul_plus (fin false m e) (fin true n d) p q = absurd q
mul_plus (fin false m e) (fin false n d) p q = round_plus (m * up e * (n * up d)) (down e * down d)

div_plus : (x y : Float) → Plus x → Plus y → Plus (x ⊘ y)
unfolding div
div_plus nan y p q = tt
div_plus (inf s) nan p q = tt
div_plus (inf s) (inf t) p q = tt
div_plus (inf true) (fin t n d) p q = absurd p
div_plus (inf false) (fin true n d) p q = absurd q
div_plus (inf false) (fin false n d) p q = tt
div_plus (fin s m e) nan p q = tt
div_plus (fin true m e) (inf t) p q = absurd p
div_plus (fin false m e) (inf true) p q = absurd q
div_plus (fin false m e) (inf false) p q = tt
div_plus (fin true m e) (fin t n d) p q = absurd p
div_plus (fin false m e) (fin true n d) p q = absurd q
div_plus (fin false m e) (fin false n d) p q = pick (eqb n 0) (cond (eqb m 0) nan (inf false)) (round binary32 false (m * up e * down d) (n * up d * down e)) (pick (eqb m 0) nan (inf false) tt tt) (round_plus (m * up e * down d) (n * up d * down e))

numbers : Plus f0 × Plus f2 × Plus (f1 ⊖ f0)
unfolding of_bits sub add sum round
numbers = (tt, tt, tt)

count_plus : (i : ℕ) → Plus (count_of i)
unfolding of_int
count_plus i = round_plus i 1

mid_plus : (a b : Float) → Plus a → Plus b → Plus (mid_of a b)
unfolding mid_of
mid_plus a b p q = div_plus (a ⊕ b) f2 (add_plus a b p q) numbers.1

edge_plus : (i : ℕ) → Plus (edge_of f0 f1 i)
unfolding edge_of
edge_plus i = add_plus f0 _ numbers.0 (mul_plus (f1 ⊖ f0) _ numbers.2 (div_plus (count_of i) (count_of cells) (count_plus i) (count_plus cells)))

-- ---- the points
module _ (g : Gradient) (far : Far) (lo hi : Float) where
  abbrev row : ℕ → List Float
  row i = points_of g far (edge_of lo hi i) (edge_of lo hi (i + 1))

  pub row_single : (i : ℕ) → Every Single (row i)
  row_single i = points_every Single (λ a b p q. mid_single a b) g far (edge_of lo hi i) (edge_of lo hi (i + 1)) (edge_single lo hi i) (edge_single lo hi (i + 1))

  module _ (domain : is_domain lo hi ≡ true) (fl : Single lo) (fh : Single hi) where
    abbrev rows : ℕ → List Float
    rows = row_points (rows_of g far lo hi) (counts_of g far lo hi)

    abbrev pub all : List Float
    all = list_of (rows_of g far lo hi) (counts_of g far lo hi) hi

    climb : Climbs (edge_of lo hi 0) all hi
    climb = points_climb lo hi domain g far (last_cell lo hi domain fl fh g far)

    pub all_single : Every Single all
    unfolding list_of
    all_single = every_both Single (joined rows 36) (hi ∷ []) (every_joined Single rows 36 (λ i l. rw (row_points_lem lo hi domain g far i l) (row_single i))) (fh, tt)

    -- point j of row i is one of them
    module _ (i j : ℕ) (l : i < 36) (m : j < length (row i)) where
      long : (r : ℕ) → r < 36 → length (rows r) ≡ length (row r)
      long r k = ap length (row_points_lem lo hi domain g far r k)

      abbrev at : ℕ
      at = summed (λ r. length (row r)) i + j

      in_rows : at < length (joined rows 36)
      in_rows = omega (arith, length-summed rows (λ r. length (row r)) 36 long, summed_mono (λ r. length (row r)) i 36 l)

      in_all : at < length all
      unfolding list_of
      in_all = omega (arith, in_rows, length-append (joined rows 36) (hi ∷ []))

      is_point : get_or all at nan ≡ get_or (row i) j nan
      unfolding list_of
      is_point =
          get_or-append (joined rows 36) (hi ∷ []) nan at in_rows ∙ item rows (λ r. length (row r)) nan 36 long i j l m
          ∙ ap (λ (ts : List Float). get_or ts j nan) (row_points_lem lo hi domain g far i l)

      pub point_led : LedBy (get_or (row i) j nan) all
      point_led = subst (λ (t : Float). LedBy t all) is_point (climbs_led (edge_of lo hi 0) hi all climb at in_all)

      pub point_low : T (le lo (get_or (row i) j nan))
      point_low =
          le_trans lo (edge_of lo hi 0) (get_or (row i) j nan) (edge_first lo hi domain fl)
          (subst (λ (t : Float). T (le (edge_of lo hi 0) t)) is_point (item_low (edge_of lo hi 0) hi all climb at in_all))

      pub point_high : T (le (get_or (row i) j nan) hi)
      point_high = subst (λ (t : Float). T (le t hi)) is_point (item_high (edge_of lo hi 0) hi all climb at in_all)

      pub point_single : Single (get_or (row i) j nan)
      point_single = every_at Single (row i) j (row_single i) m

-- of segments none is -0
pub point_plus : (g : Gradient) (far : Far) (i j : ℕ) → j < length (row g far f0 f1 i) → Plus (get_or (row g far f0 f1 i) j nan)
point_plus g far i j m = every_at Plus (row g far f0 f1 i) j (points_every Plus mid_plus g far (edge_of f0 f1 i) (edge_of f0 f1 (i + 1)) (edge_plus i) (edge_plus (i + 1))) m
