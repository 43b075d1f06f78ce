-- The fields of a text up to its first tab and after it. Assumes nothing.
use Prim.Native.Nat.{ℕ, ◌<◌}
use native.Mathlib.Omega.{arith}
use mathlib.Core.Path.{◌≡◌, refl, sym, ap, subst, ◌∙◌}
use mathlib.Core.Bool.{Bool, true, false}
use mathlib.Core.List.{List, [], ◌∷◌, ◌++◌}
use lib.ListN.{length}
use lib.Dec.{eqb}
use Rattle.text.specs.Text.{on_first, first_of, rest_of, fields}
use Rattle.desk.specs.Recoloured.{to_tab, after_tab}

-- ---- fields, where there are two or more
fields_tab : (b : ℕ) (u : List ℕ) → eqb b 9 ≡ true → fields (b ∷ u) ≡ [] ∷ fields u
unfolding fields
fields_tab b u e = rw e

fields_other : (b : ℕ) (u : List ℕ) → eqb b 9 ≡ false → fields (b ∷ u) ≡ on_first b (fields u)
unfolding fields
fields_other b u e = rw e

first_on : (b : ℕ) (fs : List (List ℕ)) → first_of (on_first b fs) ≡ b ∷ first_of fs
unfolding first_of on_first
first_on b [] = refl
first_on b (f ∷ fs) = refl

rest_on : (b : ℕ) (fs : List (List ℕ)) → rest_of (on_first b fs) ≡ rest_of fs
unfolding rest_of on_first
rest_on b [] = refl
rest_on b (f ∷ fs) = refl

on_first_lem : (b : ℕ) (f : List ℕ) (fs : List (List ℕ)) → on_first b (f ∷ fs) ≡ (b ∷ f) ∷ fs
unfolding on_first
on_first_lem b f fs = refl

more_on : (b : ℕ) (fs : List (List ℕ)) → 1 < length (on_first b fs) → 1 < length fs
unfolding on_first
more_on b [] h = absurd (omega arith)
more_on b (f ∷ fs) h = h

to_here : (b : ℕ) (t : List ℕ) → eqb b 9 ≡ true → to_tab (b ∷ t) ≡ b ∷ []
unfolding to_tab
to_here b t e = rw e

to_later : (b : ℕ) (t : List ℕ) → eqb b 9 ≡ false → to_tab (b ∷ t) ≡ b ∷ to_tab t
unfolding to_tab
to_later b t e = rw e

pub fields_to : (t u : List ℕ) → 1 < length (fields t) → fields (to_tab t ++ u) ≡ first_of (fields t) ∷ fields u
unfolding fields first_of
fields_to [] u h = absurd (omega arith)
fields_to (b ∷ t) u h = go (eqb b 9) refl (fields_to t u) where
  go : (c : Bool) → eqb b 9 ≡ c → (1 < length (fields t) → fields (to_tab t ++ u) ≡ first_of (fields t) ∷ fields u) → fields (to_tab (b ∷ t) ++ u) ≡ first_of (fields (b ∷ t)) ∷ fields u
  go true e r =
      ap (λ (l : List ℕ). fields (l ++ u)) (to_here b t e) ∙ fields_tab b u e
      ∙ sym (ap (λ (fs : List (List ℕ)). first_of fs ∷ fields u) (fields_tab b t e))
  go false e r =
      let o = fields_other b t e in
      ap (λ (l : List ℕ). fields (l ++ u)) (to_later b t e) ∙ fields_other b (to_tab t ++ u) e
      ∙ ap (on_first b) (r (more_on b (fields t) (subst (λ (fs : List (List ℕ)). 1 < length fs) o h))) ∙ on_first_lem b (first_of (fields t)) (fields u)
      ∙ sym (ap (λ (fs : List (List ℕ)). first_of fs ∷ fields u) o ∙ ap (λ (f : List ℕ). f ∷ fields u) (first_on b (fields t)))

after_here : (b : ℕ) (t : List ℕ) → eqb b 9 ≡ true → after_tab (b ∷ t) ≡ t
unfolding after_tab
after_here b t e = rw e

after_later : (b : ℕ) (t : List ℕ) → eqb b 9 ≡ false → after_tab (b ∷ t) ≡ after_tab t
unfolding after_tab
after_later b t e = rw e

pub fields_after : (t : List ℕ) → 1 < length (fields t) → fields (after_tab t) ≡ rest_of (fields t)
unfolding fields rest_of
fields_after [] h = absurd (omega arith)
fields_after (b ∷ t) h = go (eqb b 9) refl (fields_after t) where
  go : (c : Bool) → eqb b 9 ≡ c → (1 < length (fields t) → fields (after_tab t) ≡ rest_of (fields t)) → fields (after_tab (b ∷ t)) ≡ rest_of (fields (b ∷ t))
  go true e r = ap fields (after_here b t e) ∙ sym (ap rest_of (fields_tab b t e))
  go false e r =
      let o = fields_other b t e in
      ap fields (after_later b t e) ∙ r (more_on b (fields t) (subst (λ (fs : List (List ℕ)). 1 < length fs) o h))
      ∙ sym (ap rest_of o ∙ rest_on b (fields t))
