-- How many evaluations there can be. Assumes nothing.
use mathlib.Core.Bool.{Bool, true, false, cond}
use mathlib.Core.List.{List, [], ◌∷◌}
use Prim.Native.Nat.{ℕ, zero, suc, ◌+◌, ◌*◌, ◌≤◌}
use native.Mathlib.Omega.{arith}
use lib.ListN.{length, length-append}
use lib.Ieee.{Float}
use Rattle.sampling.specs.Midpoints.{Gradient, Far}
use Rattle.thinning.specs.Kept.{near_of, stays, thinned, weighed, kept_of, weighed_of, refusal_of, list_evaluations}
use Rattle.linearize.specs.Desk.{evaluations_of_listed, listed_of, list_answer}

-- of n + 1 points after the first, at most n are weighed and n + 1 kept
thinned_most : (g : Gradient) (far : Far) (last x : Float) (rest : List Float)
    → (weighed g far last (x ∷ rest) ≤ length rest) × (length (thinned g far last (x ∷ rest)) ≤ length rest + 1)
unfolding thinned weighed
thinned_most g far last x [] = (omega arith, omega arith)
thinned_most g far last x (y ∷ rest) =
    let b = stays g far last x y in
    let ih = thinned_most g far (cond b x last) y rest in (
      omega (arith, ih, one (near_of last x)),
      omega (arith, ih, some b, length-append (cond b (x ∷ []) []) (thinned g far (cond b x last) (y ∷ rest))),
    )
  where
    one : (b : Bool) → cond b 0 1 ≤ 1
    one true = omega arith
    one false = omega arith

    some : (b : Bool) → length (cond b (x ∷ []) []) ≤ 1
    some true = omega arith
    some false = omega arith

module _ (g : Gradient) (far : Far) where
  list_both : (ts : List Float) → 2 ≤ length ts → (weighed_of g far ts + 2 ≤ length ts) × (length (kept_of g far ts) ≤ length ts)
  unfolding kept_of weighed_of
  list_both [] h = absurd (omega arith)
  list_both (p ∷ []) h = absurd (omega arith)
  list_both (p ∷ x ∷ rest) h = let w = thinned_most g far p x rest in (omega (arith, w), omega (arith, w))

  module _ (ts : List Float) (some : 2 ≤ length ts) (most : length ts ≤ 4609) where
    -- 4,607 points are weighed and 4,609 stops written at most
    pub weighed_bound : 3 * weighed_of g far ts ≤ 13821
    weighed_bound = omega (arith, list_both ts some)

    pub stops_bound : length (kept_of g far ts) ≤ 4609
    stops_bound = omega (arith, list_both ts some)

    pub list_bound : list_evaluations g far ts ≤ 18430
    unfolding list_evaluations
    list_bound = omega (arith, weighed_bound, stops_bound)

    spent : (k s e : ℕ) → evaluations_of_listed (listed_of k s e) ≤ e
    spent zero s e = omega arith
    spent (suc k) s e = omega arith

    pub answer_bound : (room : ℕ) → evaluations_of_listed (list_answer g far room ts) ≤ 18430
    unfolding list_answer
    answer_bound room = omega (arith, spent (refusal_of g far room ts) (length (kept_of g far ts)) (list_evaluations g far ts), list_bound)
