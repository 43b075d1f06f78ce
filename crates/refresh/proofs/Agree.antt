-- Two gradients that agree wherever a point is outside give, in every cell that is clear, one row, one count and the same tries:
-- pure induction over the halvings. So refreshing the fresh record of the one by the other gives the fresh record of the other. Assumes nothing.
use mathlib.Core.Path.{◌≡◌, refl, ap, ◌∙◌}
use mathlib.Core.Bool.{Bool, true, false, cond, ◌&&◌}
use mathlib.Core.List.{List, [], ◌∷◌, ◌++◌}
use Prim.Native.Nat.{ℕ, zero, suc, ◌+◌, ◌*◌, ◌≤◌, ◌<◌}
use native.Mathlib.Nat.{suc-mul, le_of_eq, lt_of_not-le, mul-le-mul_right}
use native.Mathlib.Decide.{dec_le}
use native.Mathlib.Omega.{arith}
use lib.ListN.{length, take, drop, get_or, length-drop}
use lib.Seq.{take_all, drop_at, drop-append-le, take-append-le}
use lib.Ieee.{Float}
use Rattle.float.proofs.Flags.{both_l, both_r}
use Rattle.sampling.specs.Constants.{cells, depth, row_length}
use Rattle.sampling.specs.Midpoints.{Gradient, Far, mid_of, keeps, halves, tries}
use Rattle.slices.specs.Joined.{joined}
use Rattle.sampling.specs.Cells.{edge_of, points_of, padded, row_of, cell_row, cell_count, cell_tries, rows_of, counts_of}
use Rattle.refresh.specs.reach.Stretch.{mids_outside, clear_of, cell_clear}
use Rattle.slices.proofs.Joined.{length-joined, single}
use Rattle.sampling.proofs.Rows.{cell_length}
use Rattle.sampling.specs.Anew.{anew_row, anew_count, anew_rows, anew_counts}

module _ (g h : Gradient) (far : Far) (out : Float → Bool) (agree : (t : Float) → out t ≡ true → g t ≡ h t) where
  same_keeps : (t0 t1 : Float) → out t0 ≡ true → out t1 ≡ true → out (mid_of t0 t1) ≡ true → keeps g far t0 t1 ≡ keeps h far t0 t1
  unfolding keeps
  same_keeps t0 t1 p q r = rw (agree t0 p, agree t1 q, agree (mid_of t0 t1) r)

  same : (n : ℕ) (t0 t1 : Float) → out t0 ≡ true → out t1 ≡ true → mids_outside out n t0 t1 ≡ true
      → (halves g far n t0 t1 ≡ halves h far n t0 t1) × (tries g far n t0 t1 ≡ tries h far n t0 t1)
  unfolding halves tries mids_outside
  same zero t0 t1 p q r = (refl, refl)
  same (suc n) t0 t1 p q r =
      let m = mid_of t0 t1 in
      let om : out m ≡ true = both_l (out m) _ r in
      let rest = both_r (out m) (mids_outside out n t0 m && mids_outside out n m t1) r in
      let a = same n t0 m p om (both_l (mids_outside out n t0 m) _ rest) in
      let b = same n m t1 om q (both_r (mids_outside out n t0 m) (mids_outside out n m t1) rest) in
      let k = same_keeps t0 t1 p q om in
      (rw (k, a.0, b.0), rw (k, a.1, b.1))

  -- a clear cell has the same row, count and tries
  module _ (lo hi : Float) (i : ℕ) (clear : cell_clear out lo hi i ≡ true) where
    in_cell : (halves g far depth (edge_of lo hi i) (edge_of lo hi (i + 1)) ≡ halves h far depth (edge_of lo hi i) (edge_of lo hi (i + 1)))
        × (tries g far depth (edge_of lo hi i) (edge_of lo hi (i + 1)) ≡ tries h far depth (edge_of lo hi i) (edge_of lo hi (i + 1)))
    unfolding cell_clear clear_of
    in_cell =
        let t0 = edge_of lo hi i in
        let t1 = edge_of lo hi (i + 1) in
        let rest = both_r (out t0) (out t1 && mids_outside out depth t0 t1) clear in
        same depth t0 t1 (both_l (out t0) _ clear) (both_l (out t1) _ rest) (both_r (out t1) (mids_outside out depth t0 t1) rest)

    pub same_row : cell_row g far lo hi i ≡ cell_row h far lo hi i
    unfolding cell_row row_of points_of
    same_row = ap (λ (l : List Float). padded row_length (edge_of lo hi i ∷ l)) in_cell.0

    pub same_count : cell_count g far lo hi i ≡ cell_count h far lo hi i
    unfolding cell_count points_of
    same_count = ap (λ (l : List Float). length (edge_of lo hi i ∷ l)) in_cell.0

    pub same_tries : cell_tries g far lo hi i ≡ cell_tries h far lo hi i
    unfolding cell_tries
    same_tries = in_cell.1

-- ---- what stands at cell i of a record
pub joined_same : {A : Type 0} (f k : ℕ → List A) (n : ℕ) → ((i : ℕ) → i < n → f i ≡ k i) → joined f n ≡ joined k n
unfolding joined
joined_same f k zero h = refl
joined_same f k (suc n) h = rw (joined_same f k n (λ i l. h i (omega arith)), h n (omega arith))

pub joined_cell : {A : Type 0} (f : ℕ → List A) (m n i : ℕ) → ((j : ℕ) → j < n → length (f j) ≡ m) → i < n → take m (drop (i * m) (joined f n)) ≡ f i
unfolding joined
joined_cell f m zero i h l = absurd (omega arith)
joined_cell f m (suc n) i h l = go (dec_le n i) (joined_cell f m n i (λ j l. h j (omega arith)))
  where
    last : i ≡ n → take m (drop (i * m) (joined f n ++ f n)) ≡ f i
    last e =
        rw e
        (ap (take m) (drop_at (joined f n) (f n) (n * m) (length-joined f m n (λ j l. h j (omega arith)) n (omega arith))) ∙ take_all m (f n) (le_of_eq (h n (omega arith))))

    earlier : (i < n → take m (drop (i * m) (joined f n)) ≡ f i) → i < n → take m (drop (i * m) (joined f n ++ f n)) ≡ f i
    earlier before l =
        let j = length-joined f m n (λ j l. h j (omega arith)) n (omega arith) in
        let a : suc i * m ≤ n * m = mul-le-mul_right m l in
        let b : i * m ≤ length (joined f n) = omega (arith, suc-mul i m) in
        let c : m ≤ length (drop (i * m) (joined f n)) = omega (arith, suc-mul i m, length-drop (i * m) (joined f n)) in
        ap (take m) (drop-append-le (i * m) (joined f n) (f n) b)
        ∙ take-append-le m (drop (i * m) (joined f n)) (f n) c
        ∙ before l

    go : Dec (n ≤ i) → (i < n → take m (drop (i * m) (joined f n)) ≡ f i) → take m (drop (i * m) (joined f n ++ f n)) ≡ f i
    go (yes p) before = last (omega arith)
    go (no p) before = earlier before (lt_of_not-le p)

-- cell i of a gradient's record
module _ (g : Gradient) (far : Far) (lo hi : Float) (i : ℕ) (l : i < cells) where
  pub row_at : take row_length (drop (i * row_length) (rows_of g far lo hi)) ≡ cell_row g far lo hi i
  unfolding rows_of
  row_at = joined_cell (cell_row g far lo hi) row_length cells i (λ j m. cell_length g far lo hi j) l

  pub count_at : get_or (counts_of g far lo hi) i 0 ≡ cell_count g far lo hi i
  unfolding counts_of
  count_at = single (cell_count g far lo hi) cells i l

-- ---- the theorem: refreshed is fresh
module _ (g h : Gradient) (far : Far) (out : Float → Bool) (agree : (t : Float) → out t ≡ true → g t ≡ h t) (lo hi : Float) where
  row_anew : (i : ℕ) → i < cells → anew_row h far (cell_clear out lo hi) lo hi (rows_of g far lo hi) i ≡ cell_row h far lo hi i
  unfolding anew_row
  row_anew i l = go (cell_clear out lo hi i) refl
    where
      go : (b : Bool) → cell_clear out lo hi i ≡ b → cond b (take row_length (drop (i * row_length) (rows_of g far lo hi))) (cell_row h far lo hi i) ≡ cell_row h far lo hi i
      go true e = row_at g far lo hi i l ∙ same_row g h far out agree lo hi i e
      go false e = refl

  count_anew : (i : ℕ) → i < cells → anew_count h far (cell_clear out lo hi) lo hi (counts_of g far lo hi) i ≡ cell_count h far lo hi i
  unfolding anew_count
  count_anew i l = go (cell_clear out lo hi i) refl
    where
      go : (b : Bool) → cell_clear out lo hi i ≡ b → cond b (get_or (counts_of g far lo hi) i 0) (cell_count h far lo hi i) ≡ cell_count h far lo hi i
      go true e = count_at g far lo hi i l ∙ same_count g h far out agree lo hi i e
      go false e = refl

  pub refreshed_rows : anew_rows h far (cell_clear out lo hi) lo hi (rows_of g far lo hi) ≡ rows_of h far lo hi
  unfolding anew_rows rows_of
  refreshed_rows = joined_same (anew_row h far (cell_clear out lo hi) lo hi (rows_of g far lo hi)) (cell_row h far lo hi) cells row_anew

  pub refreshed_counts : anew_counts h far (cell_clear out lo hi) lo hi (counts_of g far lo hi) ≡ counts_of h far lo hi
  unfolding anew_counts counts_of
  refreshed_counts = joined_same (λ i. anew_count h far (cell_clear out lo hi) lo hi (counts_of g far lo hi) i ∷ []) (λ i. cell_count h far lo hi i ∷ []) cells (λ i l. ap (λ (n : ℕ). n ∷ []) (count_anew i l))
