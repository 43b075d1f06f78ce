-- The place of t in positions of any order, test by test, from what the calls gave. Assumes nothing.
use mathlib.Core.Path.{◌≡◌, sym, ◌∙◌, ap}
use mathlib.Core.Bool.{Bool, true, false}
use mathlib.Core.List.{List}
use Prim.Native.Nat.{ℕ, ◌-◌}
use lib.ListN.{length}
use lib.Ieee.{Float, le, is_nan}
use Rattle.stops.specs.Stops.{pos_at}
use Rattle.stops.specs.Place.{narrowed_at, place_in}
use Rattle.stops.specs.declared.Place.TheVariants.{End, Nowhere, Between}

module _ (ps : List Float) (t : Float) {x : Float} (d : x ≡ pos_at ps 0) where
  pub at_first : le t x ≡ true → End 0 ≡ place_in ps t
  unfolding place_in
  at_first a = simp (ap (λ (u : Float). le t u) (sym d) ∙ a)

  module _ {y : Float} {l : ℕ} (p : l ≡ length ps - 1) (a : le t x ≡ false) (e : y ≡ pos_at ps l) where
    first_not : le t (pos_at ps 0) ≡ false
    first_not = ap (λ (u : Float). le t u) (sym d) ∙ a

    last_is : {b : Bool} → le y t ≡ b → le (pos_at ps (length ps - 1)) t ≡ b
    last_is h = ap (λ (u : Float). le u t) (sym (e ∙ ap (λ (n : ℕ). pos_at ps n) p)) ∙ h

    pub at_last : le y t ≡ true → End l ≡ place_in ps t
    unfolding place_in
    at_last b = ap End p ∙ simp (first_not, last_is b)

    pub at_nan : le y t ≡ false → is_nan t ≡ true → Nowhere ≡ place_in ps t
    unfolding place_in
    at_nan b n = simp (first_not, last_is b, n)

    pub at_between : {k : ℕ} → le y t ≡ false → is_nan t ≡ false → k ≡ narrowed_at t ps → Between k ≡ place_in ps t
    unfolding place_in
    at_between b n h = ap Between h ∙ simp (first_not, last_is b, n)
