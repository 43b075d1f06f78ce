-- Laws of a cell's row, count and tries. Assumes nothing.
use mathlib.Core.Path.{◌≡◌, sym, ap, ◌∙◌}
use mathlib.Core.List.{List, ◌∷◌, ◌++◌}
use Prim.Native.Nat.{ℕ, ◌+◌, ◌-◌, ◌*◌, ◌≤◌, ◌<◌}
use native.Mathlib.Omega.{arith}
use lib.ListN.{length, set, take, drop, replicate, length-append, length-replicate, length-set}
use lib.Seq.{sets, length-sets}
use lib.Ieee.{Float}
use Rattle.float.specs.F32.{f0}
use Rattle.sampling.specs.Midpoints.{Gradient, Far, halves, tries}
use Rattle.sampling.specs.Cells.{points_of, row_of, padded, edge_of, cell_row, cell_count, cell_tries}
use Rattle.sampling.specs.Constants.{row_length}
use Rattle.sampling.specs.inner.Steps.{HalvesTo, RowIs}
use Rattle.sampling.specs.declared.Halved.{Halved}
use Rattle.slices.proofs.Stores.{sets-append, sets_all, part_sets}
use Rattle.sampling.proofs.Halves.{short, few}

-- cell i of a record is sampled anew
pub record CellAnew (g : Gradient) (far : Far) (lo hi : Float) (i : ℕ) (rows rows' : List Float) (counts counts' : List ℕ) (n : ℕ) : Type 0 where
  pub tried : n ≡ cell_tries g far lo hi i
  pub written : rows' ≡ sets rows (i * row_length) (cell_row g far lo hi i)
  pub counted : counts' ≡ set counts i (cell_count g far lo hi i)

-- the left end, the points kept and then +0: the whole row
padded_written : (l r1 r2 xs : List Float) (t0 : Float) (at : ℕ) → length l ≡ 128 → length xs + 1 ≤ 128 → at ≡ 1 + length xs
    → r1 ≡ sets (set l 0 t0) 1 xs → r2 ≡ sets r1 at (replicate (length r1 - at) f0) → r2 ≡ padded 128 (t0 ∷ xs)
padded_written l r1 r2 xs t0 at e h f p q =
    let n : length r1 ≡ 128 = ap length p ∙ length-sets (set l 0 t0) 1 xs ∙ length-set l 0 t0 ∙ e in
    let m : at ≡ 0 + length (t0 ∷ xs) = omega arith in
    let k : 128 - length (t0 ∷ xs) ≡ 128 - at = omega arith in
    q ∙ rw (n, k, p, m) (sym (sets-append l 0 (t0 ∷ xs) _))
    ∙ sets_all l _ (length-append (t0 ∷ xs) _ ∙ omega (arith, length-replicate (128 - length (t0 ∷ xs)) f0))

module _ (g : Gradient) (far : Far) (t0 t1 : Float) where
  -- a row has 1 to 128 points, and 128 places
  pub points_some : 1 ≤ length (points_of g far t0 t1)
  unfolding points_of
  points_some = omega arith

  pub points_most : length (points_of g far t0 t1) ≤ 128
  unfolding points_of
  points_most = omega (arith, short g far 7 t0 t1)

  pub row_length_lem : length (row_of g far t0 t1) ≡ 128
  unfolding row_of
  row_length_lem =
      length-append (points_of g far t0 t1) _ ∙ omega (arith, length-replicate (128 - length (points_of g far t0 t1)) f0, points_most)

  pub tries_most : tries g far 7 t0 t1 ≤ 127
  tries_most = omega (arith, few g far 7 t0 t1)

  -- the left end stored, the stretch halved, the rest cleared
  pub row_is : (row r1 r2 : List Float) (h : Halved) → length row ≡ 128 → HalvesTo g far 7 t0 t1 1 (set row 0 t0) r1 h
      → r2 ≡ sets r1 h.at (replicate (length r1 - h.at) f0) → RowIs g far t0 t1 r2 h
  unfolding points_of row_of
  row_is row r1 r2 h e w q =
      record {
        count = w.next ∙ omega arith;
        tried = w.tried;
        written = padded_written row r1 r2 (halves g far 7 t0 t1) t0 h.at e (short g far 7 t0 t1) w.next w.written q;
      }

module _ (g : Gradient) (far : Far) (t0 t1 : Float) (row : List Float) (h : Halved) where
  pub count_most : RowIs g far t0 t1 row h → h.at ≤ 128
  count_most w = omega (arith, w.count, points_most g far t0 t1)

  -- the tries of cell i and of those before it
  pub tries_few : (i m : ℕ) → i < 36 → m ≤ 127 * i → RowIs g far t0 t1 row h → m + h.tries ≤ 4572
  tries_few i m l f w = omega (arith, w.tried, tries_most g far t0 t1)

module _ (g : Gradient) (far : Far) (lo hi : Float) (i : ℕ) where
  pub cell_length : length (cell_row g far lo hi i) ≡ 128
  unfolding cell_row
  cell_length = row_length_lem g far (edge_of lo hi i) (edge_of lo hi (i + 1))

  pub cell_count_some : 1 ≤ cell_count g far lo hi i
  unfolding cell_count
  cell_count_some = points_some g far (edge_of lo hi i) (edge_of lo hi (i + 1))

  pub cell_count_most : cell_count g far lo hi i ≤ 128
  unfolding cell_count
  cell_count_most = points_most g far (edge_of lo hi i) (edge_of lo hi (i + 1))

  pub cell_tries_most : cell_tries g far lo hi i ≤ 127
  unfolding cell_tries
  cell_tries_most = tries_most g far (edge_of lo hi i) (edge_of lo hi (i + 1))

  module _ (t0 t1 : Float) (p : t0 ≡ edge_of lo hi i) (q : t1 ≡ edge_of lo hi (i + 1)) where
    pub cell_row_lem : row_of g far t0 t1 ≡ cell_row g far lo hi i
    unfolding cell_row
    cell_row_lem = rw (p, q)

    pub cell_count_lem : length (points_of g far t0 t1) ≡ cell_count g far lo hi i
    unfolding cell_count
    cell_count_lem = rw (p, q)

    pub cell_tries_lem : tries g far 7 t0 t1 ≡ cell_tries g far lo hi i
    unfolding cell_tries
    cell_tries_lem = rw (p, q)

    -- the part lent to the row has come back, and the count is stored
    pub cell_anew : (rows row : List Float) (counts : List ℕ) (h : Halved) → i < 36 → length rows ≡ 4608 → RowIs g far t0 t1 row h
        → CellAnew g far lo hi i rows (take (i * 128) rows ++ (row ++ drop (i * 128 + 128 - i * 128) (drop (i * 128) rows))) counts (set counts i h.at) h.tries
    cell_anew rows row counts h lt e w =
        record {
          tried = w.tried ∙ cell_tries_lem;
          written =
              part_sets rows row (i * 128) (i * 128 + 128) (omega arith) (omega arith) (ap length w.written ∙ row_length_lem g far t0 t1 ∙ omega arith)
              ∙ ap (λ (r : List Float). sets rows (i * 128) r) (w.written ∙ cell_row_lem);
          counted = ap (λ (n : ℕ). set counts i n) (w.count ∙ cell_count_lem);
        }
