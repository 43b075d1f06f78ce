-- A name written into a lent output. Assumes nothing.
use mathlib.Core.Path.{◌≡◌, sym, ap, ◌∙◌}
use mathlib.Core.Bool.{Bool, cond}
use mathlib.Core.List.{List, ◌++◌}
use Prim.Native.Nat.{ℕ, ◌<◌, ◌≤◌}
use borrow.Author.Tests.{lt-ltb, le-ltb}
use lib.ListN.{length, drop}
use Rattle.colorgrad_c.specs.plain.Name.{named}

-- no room for all of it
pub name_out : (name out : List ℕ) → length out < length name → out ≡ named name out
unfolding named
name_out name out h = sym (ap (λ (t : Bool). cond t out (name ++ drop (length name) out)) (lt-ltb (length out) (length name) h))

pub name_in : {new : List ℕ} (name out : List ℕ) → length name ≤ length out → new ≡ name ++ drop (length name) out → new ≡ named name out
unfolding named
name_in name out h e =
    e ∙ sym (ap (λ (t : Bool). cond t out (name ++ drop (length name) out)) (le-ltb (length out) (length name) h))
