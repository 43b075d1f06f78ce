-- `append` meets its contract: what is left, put after what is there, makes the whole. Assumes nothing.
use Prim.Native.Nat.{ℕ}
use mathlib.Core.List.{List}
use Rattle.spelling.proofs.Puts.{Putting}
use Rattle.spelling.proofs.append.Given as goal

abbrev pub invariant-loop-b : goal.invariant-loop-b
invariant-loop-b l = Putting (λ (t : List ℕ). t) l.initial.buf l.at l.s l.buf l.n l.b-index
