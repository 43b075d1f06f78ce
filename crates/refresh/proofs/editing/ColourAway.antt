-- Changing the colour of stop k leaves the colour at t as it was wherever the place of t does not read stop k; so outside the stretch the
-- ramp and the changed ramp have one colour. Assumes nothing.
use mathlib.Core.Path.{◌≡◌, refl, sym, ap, ◌∙◌}
use mathlib.Core.Bool.{Bool, true, false, cond}
use mathlib.Core.List.{List}
use mathlib.Core.Logic.{◌⊎◌, inl, inr}
use Prim.Native.Nat.{ℕ, ◌+◌, ◌-◌, ◌≤◌, ◌<◌}
use native.Mathlib.Omega.{arith}
use borrow.Author.Tests.{ltb-true}
use lib.Dec.{ltb}
use lib.ListN.{length}
use lib.Ieee.{Float}
use Rattle.blend.specs.Pair.{basis_pair, catmull_pair}
use Rattle.blend.specs.declared.Rgba.{Rgba}
use Rattle.blend.specs.declared.Stop.{Stop}
use Rattle.stops.specs.Lent.{Ramp}
use Rattle.stops.specs.Stops.{pos_at, colour_at, stop_at}
use Rattle.stops.specs.Place.{Rising, place_of}
use Rattle.stops.specs.Pair.{beyond, left_of, right_of, pair_of, between, colour_in}
use Rattle.stops.specs.declared.Kind.{Kind}
use Rattle.stops.specs.declared.Kind.TheVariants.{Linear, Smoothstep, Sharp, Basis, CatmullRom, Gimp, GimpSaved}
use Rattle.stops.specs.declared.Place.{Place}
use Rattle.stops.specs.declared.Place.TheVariants.{End, Nowhere, Between}
use Rattle.gradient.specs.Ramp.{is_gimp, colour_of}
use Rattle.refresh.specs.reach.Stretch.{reach_of, colour_stretch, outside_of}
use Rattle.refresh.proofs.reach.Unread.{Unread, reach_some, outside_unread}
use Rattle.refresh.specs.editing.Edited.{changed, edited}
use Rattle.refresh.specs.declared.editing.Edit.TheVariants.{Colour}
use Rattle.refresh.proofs.editing.Recoloured.{colour_other}

module _ (ps cs : List Float) (k : ℕ) (colour : Rgba) (t : Float) where
  -- one stop of the pair, and one beside it
  apart : (reach j i : ℕ) → (k + reach < j) ⊎ (j + reach ≤ k) → i + 1 ≤ j + reach → j ≤ i + reach → colour_at (changed cs k colour) i ≡ colour_at cs i
  apart reach j i (inl h) l r = colour_other cs k colour i (λ e. omega arith)
  apart reach j i (inr h) l r = colour_other cs k colour i (λ e. omega arith)

  stops : (kind : Kind) (n j : ℕ) (x y v w : Rgba) → x ≡ v → y ≡ w
      → pair_of kind cs n j (record { position = pos_at ps (j - 1); colour = x }) (record { position = pos_at ps j; colour = y }) t
      ≡ pair_of kind cs n j (record { position = pos_at ps (j - 1); colour = v }) (record { position = pos_at ps j; colour = w }) t
  stops kind n j x y v w e f = rw (e, f)

  left : (j : ℕ) (x y : Rgba) → (k + 2 < j) ⊎ (j + 2 ≤ k) → left_of (changed cs k colour) j x y ≡ left_of cs j x y
  unfolding left_of
  left j x y h = go (ltb 1 j) refl
    where
      go : (b : Bool) → ltb 1 j ≡ b → cond b (colour_at (changed cs k colour) (j - 2)) (beyond x y) ≡ cond b (colour_at cs (j - 2)) (beyond x y)
      go true e = let l : 1 < j = ltb-true 1 j e in apart 2 j (j - 2) h (omega arith) (omega arith)
      go false e = refl

  right : (n j : ℕ) (x y : Rgba) → (k + 2 < j) ⊎ (j + 2 ≤ k) → right_of (changed cs k colour) n j x y ≡ right_of cs n j x y
  unfolding right_of
  right n j x y h = ap (λ (c : Rgba). cond (ltb (j + 1) n) c (beyond y x)) (apart 2 j (j + 1) h (omega arith) (omega arith))

  beside : (kind : Kind) (n j : ℕ) (x y : Stop) → (k + reach_of kind < j) ⊎ (j + reach_of kind ≤ k) → pair_of kind (changed cs k colour) n j x y t ≡ pair_of kind cs n j x y t
  unfolding pair_of
  beside Linear n j x y h = refl
  beside Smoothstep n j x y h = refl
  beside Sharp n j x y h = refl
  beside Basis n j x y h = ap (λ (c : Rgba). basis_pair c x y (right_of (changed cs k colour) n j x.colour y.colour) t) (left j x.colour y.colour h) ∙ ap (λ (c : Rgba). basis_pair (left_of cs j x.colour y.colour) x y c t) (right n j x.colour y.colour h)
  beside CatmullRom n j x y h = ap (λ (c : Rgba). catmull_pair c x y (right_of (changed cs k colour) n j x.colour y.colour) t) (left j x.colour y.colour h) ∙ ap (λ (c : Rgba). catmull_pair (left_of cs j x.colour y.colour) x y c t) (right n j x.colour y.colour h)
  beside Gimp n j x y h = refl
  beside GimpSaved n j x y h = refl

  pub unread : (kind : Kind) (p : Place) → Unread (reach_of kind) k p → colour_in kind ps (changed cs k colour) t p ≡ colour_in kind ps cs t p
  unfolding colour_in between
  unread kind (End i) h = colour_other cs k colour i h
  unread kind Nowhere h = refl
  unread kind (Between j) h =
      beside kind (length ps) j (stop_at ps (changed cs k colour) (j - 1)) (stop_at ps (changed cs k colour) j) h
      ∙ stops kind (length ps) j (colour_at (changed cs k colour) (j - 1)) (colour_at (changed cs k colour) j) (colour_at cs (j - 1)) (colour_at cs j)
      (apart (reach_of kind) j (j - 1) h (omega (arith, reach_some kind)) (omega (arith, reach_some kind)))
      (apart (reach_of kind) j j h (omega (arith, reach_some kind)) (omega (arith, reach_some kind)))

-- outside the stretch the ramp and the changed ramp have one colour
pub colour_away : (ramp : Ramp) (k : ℕ) (colour : Rgba) → is_gimp ramp.kind ≡ false → Rising ramp.positions → k < length ramp.positions → (t : Float)
    → outside_of (colour_stretch (reach_of ramp.kind) ramp.positions k) t ≡ true → colour_of ramp t ≡ colour_of (edited ramp (Colour k colour)) t
unfolding colour_of
colour_away ramp k colour s rising l t h =
    let ps = ramp.positions in
    rw s (sym (unread ps ramp.channels k colour t ramp.kind (place_of ps t) (outside_unread (reach_of ramp.kind) (reach_some ramp.kind) ps rising k l t h)))
