-- The record as a loop over the cells fills it: cell j's row is f j, its count k j and its tries w j. Assumes nothing.
use mathlib.Core.Path.{◌≡◌, refl, ap, ◌∙◌}
use mathlib.Core.List.{List, [], ◌∷◌, ◌++◌, append-nil}
use Prim.Native.Nat.{ℕ, ◌+◌, ◌*◌, ◌≤◌, ◌<◌}
use native.Mathlib.Omega.{arith}
use lib.ListN.{length, get_or, set, take, drop, length-set, drop_of_length-le}
use lib.Seq.{sets, length-sets}
use lib.Ieee.{Float}
use Rattle.slices.specs.Joined.{joined, summed}
use Rattle.sampling.specs.Cells.{cell_row, cell_count, rows_of, counts_of}
use Rattle.sampling.specs.Midpoints.{Gradient, Far}
use Rattle.slices.proofs.Stores.{sets_next, keep_next}
use Rattle.slices.proofs.Joined.{length-joined, joined_next, summed_next, single}
use Rattle.sampling.proofs.Rows.{cell_length}

module _ (f : ℕ → List Float) (k w : ℕ → ℕ) (rows₀ : List Float) (counts₀ : List ℕ) where
  pub record Filled (rows : List Float) (counts : List ℕ) (n i : ℕ) : Type 0 where
    pub within : i ≤ 36
    pub rows-length : length rows ≡ length rows₀
    pub counts_length : length counts ≡ length counts₀
    pub row : rows ≡ joined f i ++ drop (i * 128) rows₀
    pub count : counts ≡ joined (λ j. k j ∷ []) i ++ drop i counts₀
    pub total : n ≡ summed w i
    pub few : n ≤ 127 * i

  pub start : Filled rows₀ counts₀ 0 0
  unfolding joined summed
  start =
      record {
        within = omega arith;
        rows-length = refl;
        counts_length = refl;
        row = refl;
        count = refl;
        total = refl;
        few = omega arith;
      }

  module _ (long : length rows₀ ≡ 4608) (many : length counts₀ ≡ 36) (each : (j : ℕ) → j < 36 → length (f j) ≡ 128) where
    -- a cell written
    pub next : (rows rows' : List Float) (counts counts' : List ℕ) (n r i : ℕ) → Filled rows counts n i → i < 36
        → rows' ≡ sets rows (i * 128) (f i) → counts' ≡ set counts i (k i) → r ≡ w i → r ≤ 127
        → Filled rows' counts' (n + r) (i + 1)
    next rows rows' counts counts' n r i s lt p q e le =
        record {
          within = omega arith;
          rows-length = ap length p ∙ length-sets rows (i * 128) (f i) ∙ s.rows-length;
          counts_length = ap length q ∙ length-set counts i (k i) ∙ s.counts_length;
          row =
              p ∙ ap (λ (l : List Float). sets l (i * 128) (f i)) s.row
              ∙ sets_next (joined f i) (f i) rows₀ (i * 128) ((i + 1) * 128) (length-joined f 128 36 each i (omega arith))
              (omega (arith, each i lt)) (omega arith)
              ∙ ap (λ (l : List Float). l ++ drop ((i + 1) * 128) rows₀) (joined_next f i);
          count =
              q ∙ ap (λ (l : List ℕ). sets l i (k i ∷ [])) s.count
              ∙ sets_next (joined (λ j. k j ∷ []) i) (k i ∷ []) counts₀ i (i + 1)
              (length-joined (λ j. k j ∷ []) 1 36 (λ j h. refl) i (omega arith) ∙ omega arith) (omega arith) (omega arith)
              ∙ ap (λ (l : List ℕ). l ++ drop (i + 1) counts₀) (joined_next (λ j. k j ∷ []) i);
          total = omega (arith, s.total, e, summed_next w i);
          few = omega (arith, s.few);
        }

    -- a cell left as it was
    pub skip : (rows : List Float) (counts : List ℕ) (n i : ℕ) → Filled rows counts n i → i < 36
        → f i ≡ take 128 (drop (i * 128) rows₀) → k i ∷ [] ≡ take 1 (drop i counts₀) → w i ≡ 0
        → Filled rows counts n (i + 1)
    skip rows counts n i s lt p q e =
        record {
          within = omega arith;
          rows-length = s.rows-length;
          counts_length = s.counts_length;
          row =
              s.row ∙ keep_next (joined f i) (f i) rows₀ (i * 128) ((i + 1) * 128) 128 p (omega arith)
              ∙ ap (λ (l : List Float). l ++ drop ((i + 1) * 128) rows₀) (joined_next f i);
          count =
              s.count ∙ keep_next (joined (λ j. k j ∷ []) i) (k i ∷ []) counts₀ i (i + 1) 1 q (omega arith)
              ∙ ap (λ (l : List ℕ). l ++ drop (i + 1) counts₀) (joined_next (λ j. k j ∷ []) i);
          total = omega (arith, s.total, e, summed_next w i);
          few = omega (arith, s.few);
        }

    -- all cells done
    pub done : (rows : List Float) (counts : List ℕ) (n i : ℕ) → Filled rows counts n i → 36 ≤ i
        → (rows ≡ joined f 36) × (counts ≡ joined (λ j. k j ∷ []) 36) × (n ≡ summed w 36)
    done rows counts n i h le =
        let e : i ≡ 36 = omega arith in
        let s : Filled rows counts n 36 = rw e at h in (
          s.row ∙ ap (λ (l : List Float). joined f 36 ++ l) (drop_of_length-le rows₀ {i = 36 * 128} (omega arith)) ∙ append-nil (joined f 36),
          s.count ∙ ap (λ (l : List ℕ). joined (λ j. k j ∷ []) 36 ++ l) (drop_of_length-le counts₀ {i = 36} (omega arith)) ∙ append-nil _,
          s.total,
        )

-- ---- the lengths of a sampled record, and its counts

module _ (g : Gradient) (far : Far) (lo hi : Float) where
  pub rows-length : length (rows_of g far lo hi) ≡ 4608
  unfolding rows_of
  rows-length = length-joined (cell_row g far lo hi) 128 36 (λ j h. cell_length g far lo hi j) 36 (omega arith)

  pub counts_length : length (counts_of g far lo hi) ≡ 36
  unfolding counts_of
  counts_length = length-joined (λ j. cell_count g far lo hi j ∷ []) 1 36 (λ j h. refl) 36 (omega arith)

  pub count_at : (i : ℕ) → i < 36 → get_or (counts_of g far lo hi) i 0 ≡ cell_count g far lo hi i
  unfolding counts_of
  count_at i h = single (cell_count g far lo hi) 36 i h
