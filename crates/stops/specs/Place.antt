-- Where t lies among the positions of stops. Item 3 of document 01's 'Ramps carried'.
use Rattle.std.specs.Prelude.{ℕ, zero, suc, ◌+◌, ◌-◌, ◌*◌, ◌/◌, ◌≤◌, ◌<◌, cond, List, [], ◌∷◌, T, ltb, length, Float}
use Rattle.std.specs.Float.Ieee.{le, lt, is_nan}
use Rattle.stops.specs.Stops.{pos_at}
use Rattle.stops.specs.declared.Place.{Place}
use Rattle.stops.specs.declared.Place.TheVariants.{End, Nowhere, Between}

-- the positions never fall, and none is not-a-number
abbrev pub Rising : List Float → Type 0
Rising ps = (i j : ℕ) → i ≤ j → j < length ps → T (le (pos_at ps i) (pos_at ps j))

-- the first index whose position is ≥ t, and the number of positions where there is none
unfoldable pub first_at : Float → List Float → ℕ
first_at t [] = zero
first_at t (p ∷ ps) = cond (le t p) zero (suc (first_at t ps))

-- t ≤ first: the first stop. Then t ≥ last: the last. Then not-a-number: nowhere. Else between stop k - 1 and stop k
abbrev pub place_by : ℕ → List Float → Float → Place
place_by k ps t =
    cond (le t (pos_at ps 0)) (End 0)
    (cond (le (pos_at ps (length ps - 1)) t) (End (length ps - 1))
    (cond (is_nan t) Nowhere (Between k)))

unfoldable pub place_of : List Float → Float → Place
place_of ps t = place_by (first_at t ps) ps t

-- ---- the same for positions in any order: k is found by asking at thirds
abbrev pub is_below : List Float → Float → ℕ → ℕ
is_below ps t i = cond (lt (pos_at ps i) t) 1 0

-- k - 1 is one of `left` indices from base on; at most `turns` times three parts are made of them
unfoldable pub narrow : ℕ → List Float → Float → ℕ → ℕ → ℕ
narrow zero ps t base left = base
narrow (suc turns) ps t base left =
    cond (ltb 2 left)
    (narrow turns ps t (base + left / 3 * (is_below ps t (base + left / 3) + is_below ps t (base + left / 3 * 2))) (left - left / 3 * 2))
    (cond (ltb 1 left) (base + is_below ps t (base + 1)) base)

-- t is past the first position and before the last
unfoldable pub narrowed_at : Float → List Float → ℕ
narrowed_at t ps = narrow (length ps) ps t 0 (length ps - 1) + 1

unfoldable pub place_in : List Float → Float → Place
place_in ps t = place_by (narrowed_at t ps) ps t
