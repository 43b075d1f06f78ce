-- `put` meets its contract: the byte is in its place, or there is none. Assumes nothing.
use borrow.Author.Rules.{rules}
use mathlib.Core.Path.{refl, sym}
use lib.Seq.{set_out}
use Rattle.spelling.proofs.Puts.{next_in_lem, next_out}
use Rattle.spelling.proofs.put.Goals as goal

pub returns-then-at-buf : goal.returns-then-at-buf
returns-then-at-buf c = (refl, next_in_lem _ _ (search rules))

pub returns-else-at-buf : goal.returns-else-at-buf
returns-else-at-buf c = (sym (set_out _ _ _ (search rules)), next_out _ _ (search rules))
