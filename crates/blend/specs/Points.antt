-- Evenly spaced points. `linspace` of item 1 of document 01's 'Ramps carried'.
use Rattle.std.specs.Prelude.{ℕ, cond, eqb, Float}
use Rattle.float.specs.F32.{◌⊕◌, ◌⊖◌, ◌⊗◌, ◌⊘◌, f1}
use Rattle.float.specs.Number.{count_of}

-- the i-th of n points from min to max
unfoldable pub linspace_at : Float → Float → ℕ → ℕ → Float
linspace_at min max n i = cond (eqb n 1) min (min ⊕ (count_of i ⊗ (max ⊖ min)) ⊘ (count_of n ⊖ f1))
