-- A record of which some cells are sampled anew: a kept cell keeps its row and its count, and only what is kept among the 36 cells counts. A record that may
-- be thinned may be thinned then. Assumes nothing.
use mathlib.Core.Path.{◌≡◌, refl, ◌∙◌}
use mathlib.Core.Bool.{Bool, true, false, cond}
use mathlib.Core.List.{List, [], ◌∷◌}
use Prim.Native.Nat.{ℕ, zero, suc, ◌*◌, ◌≤◌, ◌<◌}
use native.Mathlib.Omega.{arith}
use lib.ListN.{length, take, drop, get_or}
use lib.Ieee.{Float}
use Rattle.places.specs.Places.{Ready}
use Rattle.sampling.specs.Constants.{cells, row_length, record_length}
use Rattle.sampling.specs.Midpoints.{Gradient, Far}
use Rattle.slices.specs.Joined.{summed}
use Rattle.sampling.specs.Cells.{cell_count}
use Rattle.sampling.specs.Anew.{anew_row, anew_count, anew_tries, anew_rows, anew_counts, anew_evaluations}
use Rattle.sampling.proofs.Rows.{cell_count_some, cell_count_most}
use Rattle.slices.proofs.Joined.{length-joined, single}
use Rattle.sampling.proofs.Renewing.{anew_length, row_kept}
use Rattle.refresh.proofs.Agree.{joined_same, joined_cell}

module _ (g : Gradient) (far : Far) (keep : ℕ → Bool) (lo hi : Float) (rows : List Float) (counts : List ℕ) where
  module _ (long : length rows ≡ record_length) (many : length counts ≡ cells) (i : ℕ) (l : i < cells) (k : keep i ≡ true) where
    pub kept_row : take row_length (drop (i * row_length) (anew_rows g far keep lo hi rows)) ≡ take row_length (drop (i * row_length) rows)
    unfolding anew_rows
    kept_row = joined_cell (anew_row g far keep lo hi rows) row_length cells i (anew_length g far keep lo hi rows counts long many) l ∙ row_kept g far keep lo hi rows counts long many i k

    pub kept_count : get_or (anew_counts g far keep lo hi counts) i 0 ≡ get_or counts i 0
    unfolding anew_counts anew_count
    kept_count = single (anew_count g far keep lo hi counts) cells i l ∙ rw k

  -- a record that may be thinned may be thinned once some of its cells are sampled anew
  pub renewed_ready : Ready rows counts → Ready (anew_rows g far keep lo hi rows) (anew_counts g far keep lo hi counts)
  unfolding anew_rows anew_counts
  renewed_ready ok =
      record {
        long = length-joined (anew_row g far keep lo hi rows) row_length cells (anew_length g far keep lo hi rows counts ok.long ok.many) cells (omega arith);
        many = length-joined (λ i. anew_count g far keep lo hi counts i ∷ []) 1 cells (λ j h. refl) cells (omega arith);
        some = λ i h. rw (single (anew_count g far keep lo hi counts) cells i h) (count_within i h).0;
        most = λ i h. rw (single (anew_count g far keep lo hi counts) cells i h) (count_within i h).1;
      }
    where
      count_within : (i : ℕ) → i < cells → (1 ≤ anew_count g far keep lo hi counts i) × (anew_count g far keep lo hi counts i ≤ row_length)
      count_within i h = unfold anew_count in pick (keep i)
        where
          pick : (b : Bool) → (1 ≤ cond b (get_or counts i 0) (cell_count g far lo hi i)) × (cond b (get_or counts i 0) (cell_count g far lo hi i) ≤ row_length)
          pick true = (ok.some i h, ok.most i h)
          pick false = (cell_count_some g far lo hi i, cell_count_most g far lo hi i)

-- ---- two rules that keep the same cells
summed_same : (f k : ℕ → ℕ) (n : ℕ) → ((i : ℕ) → i < n → f i ≡ k i) → summed f n ≡ summed k n
unfolding summed
summed_same f k zero h = refl
summed_same f k (suc n) h = rw (summed_same f k n (λ i l. h i (omega arith)), h n (omega arith))

module _ (g : Gradient) (far : Far) (keep other : ℕ → Bool) (lo hi : Float) (same : (i : ℕ) → i < cells → keep i ≡ other i) where
  pub same_rows : (rows : List Float) → anew_rows g far keep lo hi rows ≡ anew_rows g far other lo hi rows
  unfolding anew_rows anew_row
  same_rows rows = joined_same (anew_row g far keep lo hi rows) (anew_row g far other lo hi rows) cells (λ i l. rw (same i l))

  pub same_counts : (counts : List ℕ) → anew_counts g far keep lo hi counts ≡ anew_counts g far other lo hi counts
  unfolding anew_counts anew_count
  same_counts counts = joined_same (λ i. anew_count g far keep lo hi counts i ∷ []) (λ i. anew_count g far other lo hi counts i ∷ []) cells (λ i l. rw (same i l))

  pub same_evaluations : anew_evaluations g far keep lo hi ≡ anew_evaluations g far other lo hi
  unfolding anew_evaluations anew_tries
  same_evaluations = rw (summed_same (anew_tries g far keep lo hi) (anew_tries g far other lo hi) cells (λ i l. rw (same i l)))
