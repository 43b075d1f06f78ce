-- `leaves::put_numeral` is safe: a text is no longer than its bytes. Assumes nothing.
use mathlib.Core.Path.{◌≡◌, sym, ap, ◌∙◌}
use mathlib.Core.List.{List}
use Prim.Native.Nat.{ℕ}
use lib.ListN.{length, take}
use Rattle.numerals.specs.Written.{TextIs}
use Rattle.numerals.proofs.Theorems.{bytes_are}
use Rattle.leaves.proofs.put_numeral.Goals as goal

size : (t bytes : List ℕ) (len : ℕ) → TextIs t bytes len → length (take len bytes) ≡ len
size t bytes len h = ap length (bytes_are t bytes len h) ∙ sym h.long

pub slice_bounds-put-end : goal.slice_bounds-put-end
slice_bounds-put-end c = sym (size _ _ _ c.write-t.ensures)
