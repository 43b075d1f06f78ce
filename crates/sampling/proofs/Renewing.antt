-- The record as a loop over the cells renews it: cell by cell kept or sampled anew. Assumes nothing.
use mathlib.Core.Path.{◌≡◌, refl, sym, ap, ◌∙◌, fun_ext}
use mathlib.Core.Bool.{Bool, true, false, cond}
use mathlib.Core.List.{List, [], ◌∷◌}
use Prim.Native.Nat.{ℕ, zero, suc, ◌+◌, ◌*◌, ◌≤◌, ◌<◌}
use native.Mathlib.Omega.{arith}
use lib.ListN.{length, get_or, take, drop, length-drop, replicate}
use lib.Seq.{length-take-le, drop-cons}
use lib.Ieee.{Float}
use Rattle.stops.specs.Lent.{Ramp, Change, change}
use Rattle.gradient.specs.Ramp.{min_of, max_of, colour_of}
use Rattle.sampling.specs.Midpoints.{Gradient, Far}
use Rattle.sampling.specs.Cells.{edge_of, cell_row, cell_count, cell_tries, rows_of, counts_of, tries_of, sampling_evaluations}
use Rattle.sampling.specs.Lent.{Held, held_of, Body, body_of}
use Rattle.sampling.specs.Sampling.{far_of, marks_of, fresh, fresh_evaluations}
use Rattle.sampling.specs.Anew.{anew_row, anew_count, anew_tries, anew_rows, anew_counts, anew_evaluations, kept_by, resampled, resampled_evaluations}
use Rattle.sampling.specs.inner.Steps.{PointAt, Carries, CellCarried, RecordAnew}
use Rattle.sampling.specs.declared.Carried.{Carried}
use Rattle.sampling.specs.declared.Point.{Point}
use Rattle.sampling.proofs.Rows.{CellAnew, cell_length, cell_tries_most}
use Rattle.sampling.proofs.Filling.{Filled, start, next, skip, done}

-- ---- one cell
module _ (g : Gradient) (far : Far) (lo hi : Float) (i : ℕ) (held : Change Body) (c : Carried) where
  pub cell_kept : (k : Bool) → k ≡ true → held.exit ≡ held.entry → c.tries ≤ 127 * i → CellCarried g far k lo hi i held c (record { point = c.point; known = false; tries = c.tries })
  cell_kept k e s f =
      record {
        tried = rw e (omega arith);
        written = rw e (ap (λ (h : Body). h.rows) s);
        counted = rw e (ap (λ (h : Body). h.counts) s);
        carries = record { start = λ z. absurd (no_true z); few = omega arith };
      }
    where
      no_true : false ≡ true → ⊥
      no_true z = let w : ◌≡◌ {A = ℕ} 0 1 = ap (λ (b : Bool). cond b 1 0) z in omega (arith, w)

  pub cell_redone : (k : Bool) (q : Point) (n : ℕ) → k ≡ false → PointAt g (edge_of lo hi (i + 1)) q → c.tries ≤ 127 * i
      → CellAnew g far lo hi i held.entry.rows held.exit.rows held.entry.counts held.exit.counts n
      → CellCarried g far k lo hi i held c (record { point = q; known = true; tries = c.tries + n })
  cell_redone k q n e p f w =
      record {
        tried = rw e (omega (arith, w.tried));
        written = rw e w.written;
        counted = rw e w.counted;
        carries = record { start = λ z. p; few = omega (arith, w.tried, cell_tries_most g far lo hi i) };
      }

-- ---- all cells
module _ (g : Gradient) (far : Far) (keep : ℕ → Bool) (lo hi : Float) where
  pub anew_tries_most : (i : ℕ) → anew_tries g far keep lo hi i ≤ 127
  unfolding anew_tries
  anew_tries_most i = pick (keep i)
    where
      pick : (b : Bool) → cond b 0 (cell_tries g far lo hi i) ≤ 127
      pick true = omega arith
      pick false = cell_tries_most g far lo hi i

module _ (g : Gradient) (far : Far) (keep : ℕ → Bool) (lo hi : Float) (rows₀ : List Float) (counts₀ : List ℕ) where
  -- the first i cells are done, and c is carried to the next
  pub record Renewed (rows : List Float) (counts : List ℕ) (c : Carried) (i : ℕ) : Type 0 where
    pub filled : Filled (anew_row g far keep lo hi rows₀) (anew_count g far keep lo hi counts₀) (anew_tries g far keep lo hi) rows₀ counts₀ rows counts c.tries i
    pub carried : Carries g lo hi i c

  pub renewed_start : (c : Carried) → c.known ≡ false → c.tries ≡ 0 → Renewed rows₀ counts₀ c 0
  renewed_start c e n =
      record {
        filled = rw n (start _ _ _ _ _);
        carried = record { start = λ z. absurd (no_true (sym e ∙ z)); few = omega arith };
      }
    where
      no_true : false ≡ true → ⊥
      no_true z = let w : ◌≡◌ {A = ℕ} 0 1 = ap (λ (b : Bool). cond b 1 0) z in omega (arith, w)

  module _ (long : length rows₀ ≡ 4608) (many : length counts₀ ≡ 36) where
    pub anew_length : (j : ℕ) → j < 36 → length (anew_row g far keep lo hi rows₀ j) ≡ 128
    unfolding anew_row
    anew_length j h = pick (keep j)
      where
        pick : (b : Bool) → length (cond b (take 128 (drop (j * 128) rows₀)) (cell_row g far lo hi j)) ≡ 128
        pick true = length-take-le 128 (drop (j * 128) rows₀) (omega (arith, length-drop (j * 128) rows₀))
        pick false = cell_length g far lo hi j

    one_of : (i : ℕ) → i < 36 → get_or counts₀ i 0 ∷ [] ≡ take 1 (drop i counts₀)
    one_of i h = rw (drop-cons counts₀ i 0 (omega arith))

    pub row_kept : (i : ℕ) → keep i ≡ true → anew_row g far keep lo hi rows₀ i ≡ take 128 (drop (i * 128) rows₀)
    unfolding anew_row
    row_kept i k = rw k

    row_not : (i : ℕ) → keep i ≡ false → anew_row g far keep lo hi rows₀ i ≡ cell_row g far lo hi i
    unfolding anew_row
    row_not i k = rw k

    count_kept : (i : ℕ) → keep i ≡ true → anew_count g far keep lo hi counts₀ i ∷ [] ≡ get_or counts₀ i 0 ∷ []
    unfolding anew_count
    count_kept i k = rw k

    count_not : (i : ℕ) → keep i ≡ false → anew_count g far keep lo hi counts₀ i ≡ cell_count g far lo hi i
    unfolding anew_count
    count_not i k = rw k

    tries_kept : (i : ℕ) → keep i ≡ true → anew_tries g far keep lo hi i ≡ 0
    unfolding anew_tries
    tries_kept i k = rw k

    tries_not : (i : ℕ) → keep i ≡ false → anew_tries g far keep lo hi i ≡ cell_tries g far lo hi i
    unfolding anew_tries
    tries_not i k = rw k

    pub renewed_next : (rows rows' : List Float) (counts counts' : List ℕ) (c r : Carried) (i : ℕ) (b : Bool) → b ≡ keep i → Renewed rows counts c i → i < 36
        → CellCarried g far b lo hi i (change (body_of rows counts) (body_of rows' counts')) c r → Renewed rows' counts' r (i + 1)
    renewed_next rows rows' counts counts' c r i b e s lt w = record { filled = by b refl; carried = w.carries }
      where
        Next : Type 0
        Next = Filled (anew_row g far keep lo hi rows₀) (anew_count g far keep lo hi counts₀) (anew_tries g far keep lo hi) rows₀ counts₀ rows' counts' r.tries (i + 1)

        by : (d : Bool) → b ≡ d → Next
        by true k =
            let h = sym e ∙ k in
            let z : r.tries ≡ c.tries = w.tried ∙ rw k (omega arith) in
            let p : rows' ≡ rows = w.written ∙ rw k in
            let q : counts' ≡ counts = w.counted ∙ rw k in
            rw (p, q, z) (skip _ _ _ _ _ long many anew_length rows counts c.tries i s.filled lt (row_kept i h) (count_kept i h ∙ one_of i lt) (tries_kept i h))
        by false k =
            let h = sym e ∙ k in
            let z : r.tries ≡ c.tries + anew_tries g far keep lo hi i = w.tried ∙ rw (k, tries_not i h) in
            rw z
            (next _ _ _ _ _ long many anew_length rows rows' counts counts' c.tries (anew_tries g far keep lo hi i) i s.filled lt (w.written ∙ rw (k, row_not i h)) (w.counted ∙ rw (k, count_not i h)) refl
            (anew_tries_most g far keep lo hi i))

    pub renewed : (rows : List Float) (counts : List ℕ) (c : Carried) (i : ℕ) → Renewed rows counts c i → 36 ≤ i
        → RecordAnew g far keep lo hi (change (body_of rows₀ counts₀) (body_of rows counts)) c.tries
    unfolding anew_rows anew_counts
    renewed rows counts c i s h =
        let d = done _ _ _ _ _ long many anew_length rows counts c.tries i s.filled h in
        record { tried = d.2; written = d.0; counted = d.1 }

-- ---- with no cell kept the record is a fresh one
none_there : (n i : ℕ) → get_or (replicate n false) i false ≡ false
none_there zero i = refl
none_there (suc n) zero = refl
none_there (suc n) (suc i) = none_there n i

none_kept : kept_by (replicate 36 false) ≡ (λ i. false)
none_kept = fun_ext (λ i. none_there 36 i)

module _ (ramp : Ramp) (asked : Float) where
  pub none_held : (was : Held) → resampled ramp asked (replicate 36 false) was ≡ fresh ramp asked
  unfolding resampled fresh anew_rows anew_counts anew_row anew_count rows_of counts_of
  none_held was =
      ap (λ (k : ℕ → Bool). held_of (anew_rows (colour_of ramp) (far_of asked) k (min_of ramp) (max_of ramp) was.rows) (anew_counts (colour_of ramp) (far_of asked) k (min_of ramp) (max_of ramp) was.counts) (marks_of ramp asked)) none_kept

  pub none_evaluations : resampled_evaluations ramp asked (replicate 36 false) ≡ fresh_evaluations ramp asked
  unfolding resampled_evaluations fresh_evaluations anew_evaluations anew_tries sampling_evaluations tries_of
  none_evaluations = rw none_kept
