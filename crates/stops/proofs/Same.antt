-- On positions that rise, the place found by narrowing is the document's. Assumes nothing.
use mathlib.Core.Path.{◌≡◌, refl, ap}
use mathlib.Core.Bool.{Bool, true, false, cond}
use mathlib.Core.List.{List}
use Prim.Native.Nat.{◌-◌, ◌≤◌}
use lib.ListN.{length}
use lib.Ieee.{Float, le, is_nan}
use Rattle.stops.specs.Stops.{pos_at}
use Rattle.stops.specs.Place.{Rising, first_at, place_of, narrowed_at, place_in}
use Rattle.stops.specs.declared.Place.TheVariants.{End, Nowhere, Between}
use Rattle.stops.proofs.Narrowing.{narrowed_first}

-- two or more positions that rise
pub same_place : (ps : List Float) → 2 ≤ length ps → Rising ps → (t : Float) → place_in ps t ≡ place_of ps t
unfolding place_in place_of
same_place ps n R t = go (le t (pos_at ps 0)) (le (pos_at ps (length ps - 1)) t) (is_nan t) refl refl refl
  where
    go : (a b c : Bool) → le t (pos_at ps 0) ≡ a → le (pos_at ps (length ps - 1)) t ≡ b → is_nan t ≡ c
        → cond a (End 0) (cond b (End (length ps - 1)) (cond c Nowhere (Between (narrowed_at t ps)))) ≡ cond a (End 0) (cond b (End (length ps - 1)) (cond c Nowhere (Between (first_at t ps))))
    go true b c A B C = refl
    go false true c A B C = refl
    go false false true A B C = refl
    go false false false A B C = ap Between (narrowed_first ps t R C n A B)
