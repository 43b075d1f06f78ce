-- The numbers of a step. Assumes nothing.
use mathlib.Core.Path.{◌≡◌, ◌∙◌}
use mathlib.Core.List.{List, [], ◌∷◌}
use Prim.Native.Nat.{ℕ, min}
use Rattle.next_stop.specs.declared.ListPlace.{ListPlace}
use Rattle.next_stop.specs.declared.ListPlace.TheVariants as place
use Rattle.next_stop.specs.declared.Handed.{Handed}
use Rattle.colorgrad_c.specs.plain.Steps.{most_plain, place_told, has_stop, handed_told}

pub step_after : (has evaluations : ℕ) {p : ListPlace} {row index n m : ℕ} → p ≡ place.After row index → n ≡ min row most_plain → m ≡ min index most_plain
    → has ∷ evaluations ∷ 1 ∷ n ∷ m ∷ [] ≡ has ∷ evaluations ∷ place_told p
step_after has evaluations e f h = rw (e, f, h)

pub step_is : (h : Handed) {has : ℕ} {numbers : List ℕ} → has ≡ has_stop h.told → numbers ≡ has ∷ h.evaluations ∷ place_told h.place → numbers ≡ handed_told h
step_is h e f = f ∙ rw e
