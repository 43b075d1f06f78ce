-- Numbers told one after the other, and of an answer. Assumes nothing.
use mathlib.Core.Path.{◌≡◌, refl, sym, ap, ◌∙◌}
use mathlib.Core.List.{List}
use Prim.Native.Nat.{ℕ, ◌+◌, ◌<◌}
use native.Mathlib.Numerals.{add-one}
use native.Mathlib.Omega.{arith}
use lib.ListN.{length, take, set, get_or, length-take}
use lib.Seq.{take-suc}
use Rattle.slices.proofs.Stores.{sets-append}
use Rattle.colorgrad_c.specs.plain.Telling.{telling}

pub tell_none : {A : Type 0} (xs was : List A) → was ≡ telling (take 0 xs) was
unfolding telling
tell_none xs was = refl

module _ {A : Type 0} (xs was : List A) (i : ℕ) {out : List A} where
  -- one more of them
  pub tell_next : (d : A) {out' : List A} → i < length xs → out ≡ telling (take i xs) was → out' ≡ set out i (get_or xs i d) → out' ≡ telling (take (i + 1) xs) was
  unfolding telling
  tell_next d h e f =
      let k : 0 + length (take i xs) ≡ i = simp length-take (omega arith) in
      f ∙ rw (e, add-one, take-suc xs i d, sets-append, k)

module _ {A : Type 0} (was : List A) {out : List A} where
  pub tells_same : {xs ys : List A} → out ≡ telling xs was → xs ≡ ys → out ≡ telling ys was
  tells_same e f = e ∙ ap (λ (l : List A). telling l was) f

  -- the number of an answer and its values, of the case r' that it is
  pub told_case : {R : Type 0} (number : R → ℕ) (values : R → List A) {r r' : R} → r ≡ r' → out ≡ telling (values r') was
      → (number r' ≡ number r) × (out ≡ telling (values r) was)
  told_case number values e f = (ap number (sym e), tells_same f (ap values (sym e)))
