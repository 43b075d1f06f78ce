-- The points of a fresh sampling's record are those of its cells. Assumes nothing.
use mathlib.Core.Path.{◌≡◌, refl, sym, ap, ◌∙◌}
use mathlib.Core.Bool.{Bool}
use mathlib.Core.List.{List}
use Prim.Native.Nat.{ℕ, zero, suc, ◌+◌, ◌-◌, ◌*◌, ◌≤◌, ◌<◌}
use native.Mathlib.Omega.{arith}
use lib.ListN.{length, get_or, replicate, get_or-append}
use lib.Ieee.{Float, nan}
use Rattle.float.specs.F32.{f0}
use Rattle.slices.specs.Joined.{summed}
use Rattle.slices.proofs.Joined.{item}
use Rattle.stops.specs.Lent.{Ramp}
use Rattle.gradient.specs.Ramp.{min_of, max_of, colour_of}
use Rattle.sampling.specs.Lent.{Held}
use Rattle.sampling.specs.Midpoints.{Gradient, Far}
use Rattle.sampling.specs.Cells.{edge_of, points_of, row_of, cell_row, cell_count, rows_of, counts_of}
use Rattle.stops.specs.Lent.{change}
use Rattle.stops.specs.declared.Checked.TheVariants.{Fine}
use Rattle.sampling.specs.Sampling.{far_of, fresh, sample_held}
use Rattle.sampling.specs.Promises.{Samples}
use Rattle.sampling.specs.declared.Sampled.{Sampled}
use Rattle.sampling.proofs.Rows.{cell_length, cell_count_most}
use Rattle.sampling.proofs.Filling.{rows-length, counts_length, count_at}
use Rattle.judge.specs.Verdicts.{ramp_check, all_verdict, point_count, fresh_point}
use Rattle.judge.specs.inner.Steps.{Readable, record_verdict}
use Rattle.judge.proofs.Walking.{same_all}

summed_rows : (n : ℕ) → summed (λ i. 128) n ≡ n * 128
unfolding summed
summed_rows zero = refl
summed_rows (suc n) = omega (arith, summed_rows n)

module _ (g : Gradient) (far : Far) (lo hi : Float) where
  abbrev points : ℕ → List Float
  points i = points_of g far (edge_of lo hi i) (edge_of lo hi (i + 1))

  count_is : (i : ℕ) → i < 36 → get_or (counts_of g far lo hi) i 0 ≡ length (points i)
  unfolding cell_count
  count_is i h = count_at g far lo hi i h

  in_row : (i j : ℕ) → j < length (points i) → get_or (cell_row g far lo hi i) j nan ≡ get_or (points i) j nan
  unfolding cell_row row_of
  in_row i j l = get_or-append (points i) (replicate (128 - length (points i)) f0) nan j l

  few_points : (i : ℕ) → length (points i) ≤ 128
  unfolding cell_count
  few_points i = cell_count_most g far lo hi i

  point_is : (i j : ℕ) → i < 36 → j < length (points i) → get_or (rows_of g far lo hi) (i * 128 + j) nan ≡ get_or (points i) j nan
  unfolding rows_of
  point_is i j h l =
      ap (λ (k : ℕ). get_or (rows_of g far lo hi) (k + j) nan) (sym (summed_rows i))
      ∙ item (cell_row g far lo hi) (λ k. 128) nan 36 (λ k b. cell_length g far lo hi k) i j h (omega (arith, few_points i))
      ∙ in_row i j l

  readable : Readable (rows_of g far lo hi) (counts_of g far lo hi)
  readable =
      record {
        long = rows-length g far lo hi;
        many = counts_length g far lo hi;
        most = λ i h. rw (count_at g far lo hi i h) (cell_count_most g far lo hi i);
      }

-- ---- the record of a call
module _ (ramp : Ramp) (asked : Float) (was is : Held) where
  pub sampled_fresh : (s : Sampled) → ramp_check ramp ≡ Fine → Samples ramp asked (change was is) s
      → length was.rows ≡ 4608 → length was.counts ≡ 36 → length was.marks ≡ 3 → is ≡ fresh ramp asked
  unfolding sample_held
  sampled_fresh s fine w a b c = w.left ∙ rw (a, b, c, fine)

module _ (ramp : Ramp) (asked : Float) (is : Held) (e : is ≡ fresh ramp asked) where
  pub fresh_readable : Readable is.rows is.counts
  unfolding fresh
  fresh_readable = rw e (readable (colour_of ramp) (far_of asked) (min_of ramp) (max_of ramp))

  -- its points are those of the cells
  pub fresh_points : (near : Float → Bool) (max : Float) → record_verdict near is.rows is.counts max ≡ all_verdict near (point_count ramp asked) (fresh_point ramp asked) max
  unfolding fresh
  fresh_points near max =
      let g = colour_of ramp in
      let far = far_of asked in
      rw e
      (same_all near (λ r. get_or (counts_of g far (min_of ramp) (max_of ramp)) r 0) (point_count ramp asked)
      (λ r k. get_or (rows_of g far (min_of ramp) (max_of ramp)) (r * 128 + k) nan) (fresh_point ramp asked) max
      (λ r h. record {
        many = count_is g far (min_of ramp) (max_of ramp) r h;
        each = λ j l. point_is g far (min_of ramp) (max_of ramp) r j h (omega (arith, l, count_is g far (min_of ramp) (max_of ramp) r h));
      }))
