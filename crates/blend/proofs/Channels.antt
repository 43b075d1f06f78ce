-- Two colours are equal where their channels are, and four-element lists where their elements are; a colour is four numbers. Assumes nothing.
use mathlib.Core.Path.{◌≡◌, refl}
use mathlib.Core.List.{List, [], ◌∷◌}
use Prim.Native.Nat.{◌*◌}
use native.Mathlib.Omega.{arith}
use lib.ListN.{length}
use lib.Ieee.{Float}
use Rattle.blend.specs.Channels.{colours_of}
use Rattle.blend.specs.declared.Rgba.{Rgba}
use Rattle.blend.specs.declared.Stop.{Stop}

pub same_rgba : {x x' y y' z z' w w' : Float} → x ≡ x' → y ≡ y' → z ≡ z' → w ≡ w' → ◌≡◌ {A = Rgba} (record { r = x; g = y; b = z; a = w }) (record { r = x'; g = y'; b = z'; a = w' })
same_rgba p q s u = simp (p, q, s, u)

pub same_stop : {x x' : Float} {y y' : Rgba} → x ≡ x' → y ≡ y' → ◌≡◌ {A = Stop} (record { position = x; colour = y }) (record { position = x'; colour = y' })
same_stop p q = simp (p, q)

pub same_four : {A : Type 0} {x x' y y' z z' w w' : A} → x ≡ x' → y ≡ y' → z ≡ z' → w ≡ w' → x ∷ y ∷ z ∷ w ∷ [] ≡ x' ∷ y' ∷ z' ∷ w' ∷ []
same_four p q s u = simp (p, q, s, u)

pub length_colours : (g : Float → Rgba) (ts : List Float) → length (colours_of g ts) ≡ 4 * length ts
unfolding colours_of
length_colours g [] = refl
length_colours g (t ∷ ts) = let h = length_colours g ts in omega arith
