-- What is wrong at each depth, over any two gradients: g is the ramp's and h the list's. A difference is document 01's, of the clamped colours.
use Rattle.std.specs.Prelude.{ℕ, zero, suc, ◌+◌, Bool, false, not, cond, ◌&&◌, List, [], ◌∷◌, Float}
use Rattle.slices.specs.Joined.{joined, summed}
use Rattle.stops.specs.Stops.{pos_at}
use Rattle.difference.specs.Difference.{differs}
use Rattle.sampling.specs.Midpoints.{Gradient}
use Rattle.judge.specs.Lists.{first_failing}
use Rattle.judge.specs.Verdicts.{close}

-- n where it holds
abbrev pub flag : ℕ → Bool → ℕ
flag n holds = cond holds n 0

-- how many of the numbers below n pass a test
abbrev pub how_many : (ℕ → Bool) → ℕ → ℕ
how_many test n = summed (λ i. flag 1 (test i)) n

-- a gradient's colours at depth i and at the one after it differ by more than the step; a difference that is not a number is not more
abbrev pub tells : Float → List Float → Gradient → ℕ → Bool
tells step ds f i = differs step (f (pos_at ds i)) (f (pos_at ds (suc i)))

module _ (g h : Gradient) (threshold step : Float) (ds : List Float) where
  -- moved: unless the two colours at depth i differ by at most the threshold
  unfoldable pub is_moved : ℕ → Bool
  is_moved i = not (close g h threshold (pos_at ds i))

  -- close: unless the ramp tells depth i from the one before. The first has none before it
  unfoldable pub is_close : ℕ → Bool
  is_close zero = false
  is_close (suc i) = not (tells step ds g i)

  -- merged: not close, and unless the list tells the two
  unfoldable pub is_merged : ℕ → Bool
  is_merged zero = false
  is_merged (suc i) = tells step ds g i && not (tells step ds h i)

  -- the byte of depth i: the sum of what holds
  unfoldable pub fault_of : ℕ → ℕ
  fault_of i = flag 1 (is_moved i) + flag 2 (is_close i) + flag 4 (is_merged i)

  -- those of the first n depths
  unfoldable pub faults_of : ℕ → List ℕ
  faults_of n = joined (λ i. fault_of i ∷ []) n

  -- the first merged one of n depths, and n where there is none
  unfoldable pub first_merged : ℕ → ℕ
  first_merged n = first_failing (λ i. not (is_merged i)) n 0
