-- `decimal::tally::past_zeros` meets its contract: a zero before the first digit that counts changes no count. Assumes nothing.
use mathlib.Core.List.{List}
use Prim.Native.Nat.{ℕ, ◌≤◌}
use Rattle.decimal.specs.inner.Counted.{Small, Counting}
use Rattle.decimal.proofs.tally.past_zeros.Given as goal

-- none of those passed counts
abbrev pub Uncounted : List ℕ → ℕ → ℕ → ℕ → Type 0
Uncounted s from c i = (v z : ℕ) → z ≤ from → Small v c → Counting s from v c z v c z i

abbrev pub invariant-loop-i : goal.invariant-loop-i
invariant-loop-i l = Uncounted l.s l.from l.count l.i
