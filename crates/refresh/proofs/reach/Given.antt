-- What `array::from_fn` gives, where each call leaves the closure as it is. Assumes nothing.
use mathlib.Core.Path.{◌≡◌, ◌∙◌, subst}
use mathlib.Core.List.{List}
use mathlib.Core.Logic.{⊎_elim}
use Prim.Native.Nat.{ℕ, zero, suc, ◌+◌, ◌≤◌, ◌<◌}
use native.Mathlib.Nat.{eq-or-lt_of_le}
use native.Mathlib.Omega.{arith}
use denote.Param.Members.{Mut, Called}
use lib.ListN.{get_or}
use Rattle.std.specs.Array.{IsFromFnResultFrom}

module _ {F B : Type 0} (g : Mut F (ℕ × Unit {0}) B) (f : F) (h : ℕ → B) (call : (i : ℕ) (y : B) (q : F) → Called g f (i, tt) y q → (y ≡ h i) × (q ≡ f)) where
  pub given : (n i : ℕ) (ys : List B) → IsFromFnResultFrom g f ys i n → (k : ℕ) (d : B) → i ≤ k → k < i + n → get_or ys k d ≡ h k
  given zero i ys t k d l m = absurd (omega arith)
  given (suc n) i ys (q, y, at, called, rest) k d l m =
      let told = call i y q called in
      let next : IsFromFnResultFrom g f ys (i + 1) n = subst (λ (p : F). IsFromFnResultFrom g p ys (i + 1) n) told.1 rest in
      ⊎_elim here (λ b. given n (i + 1) ys next k d (omega arith) (omega arith)) (eq-or-lt_of_le {n = i} {m = k} l)
    where
      here : i ≡ k → get_or ys k d ≡ h k
      here e = rw (← e) (at.1 d ∙ (call i y q called).0)
