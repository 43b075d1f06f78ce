-- What the functions within promise each other: nothing that a caller of `root` has to know.
use Rattle.std.specs.Prelude.{◌≡◌, ℕ, ◌-◌, ◌*◌, ◌^◌, ◌≤◌, ◌<◌}
use Rattle.std.specs.Float.{binary32}
use Rattle.std.specs.Float.Ieee.{of_bits}
use Rattle.sqrt.specs.Root.{nearest_root, root_of}

-- n has 47 or 48 digits, so that the whole number nearest to its root has 24; and k keeps the root in range
pub record Rootable (n k : ℕ) : Type 0 where
  pub low : 2 ^ 46 ≤ n
  pub high : n ≤ (2 ^ 24 - 1) * 2 ^ 24
  pub few : k < 200

-- the root of the f32 with the pattern b is the root of n * 4 ^ k
pub record StandsFor (b n k : ℕ) : Type 0 where
  pub fit : Rootable n k
  pub is : nearest_root (n * 4 ^ k) ≡ root_of (of_bits binary32 b)
