-- How many evaluations there can be. Assumes nothing.
use Prim.Native.Nat.{ℕ, zero, suc, ◌*◌, ◌≤◌}
use native.Mathlib.Omega.{arith}
use lib.Ieee.{Float}
use mathlib.Core.Bool.{Bool}
use mathlib.Core.List.{List}
use Rattle.stops.specs.Lent.{Ramp, Change}
use Rattle.gradient.specs.Ramp.{min_of, max_of, colour_of}
use Rattle.sampling.specs.Lent.{Body}
use Rattle.sampling.specs.Sampling.{far_of}
use Rattle.sampling.specs.Anew.{anew_tries, anew_evaluations, kept_by, resampled_evaluations}
use Rattle.sampling.specs.inner.Steps.{RecordAnew}
use Rattle.sampling.proofs.Renewing.{anew_tries_most}
use Rattle.sampling.specs.Midpoints.{Gradient, Far}
use Rattle.slices.specs.Joined.{summed}
use Rattle.sampling.specs.Cells.{cell_tries, tries_of, sampling_evaluations}
use Rattle.sampling.proofs.Rows.{cell_tries_most}

pub summed_most : (f : ℕ → ℕ) (k : ℕ) → ((i : ℕ) → f i ≤ 127) → summed f k ≤ 127 * k
unfolding summed
summed_most f zero h = omega arith
summed_most f (suc k) h = omega (arith, summed_most f k h, h k)

module _ (g : Gradient) (far : Far) (lo hi : Float) where
  -- 36 · 127 stretches are tried at most
  pub tries_bound : tries_of g far lo hi ≤ 4572
  unfolding tries_of
  tries_bound = omega (arith, summed_most (cell_tries g far lo hi) 36 (cell_tries_most g far lo hi))

  pub sampling_bound : sampling_evaluations g far lo hi ≤ 13716
  unfolding sampling_evaluations
  sampling_bound = omega (arith, tries_bound)

-- likewise where cells are kept
pub renewed_bound : (g : Gradient) (far : Far) (keep : ℕ → Bool) (lo hi : Float) (held : Change Body) (n : ℕ) → RecordAnew g far keep lo hi held n → n ≤ 4572
renewed_bound g far keep lo hi held n w = omega (arith, w.tried, summed_most (anew_tries g far keep lo hi) 36 (anew_tries_most g far keep lo hi))

pub resampling_bound : (ramp : Ramp) (asked : Float) (ks : List Bool) → resampled_evaluations ramp asked ks ≤ 13716
unfolding resampled_evaluations anew_evaluations
resampling_bound ramp asked ks =
    let g = colour_of ramp in
    omega (arith, summed_most (anew_tries g (far_of asked) (kept_by ks) (min_of ramp) (max_of ramp)) 36 (anew_tries_most g (far_of asked) (kept_by ks) (min_of ramp) (max_of ramp)))
