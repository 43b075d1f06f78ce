-- `decimal::long::is_mark` meets its contract. Assumes nothing.
use mathlib.Core.Path.{sym, ap}
use mathlib.Core.Bool.{Bool, true, cond}
use lib.Dec.{eqb}
use borrow.Author.Tests.{eq-eqb, ne_eqb}
use Rattle.decimal.proofs.long.is_mark.Goals as goal

pub returns-then-b-eq101 : goal.returns-then-b-eq101
returns-then-b-eq101 c = sym (ap (λ (t : Bool). cond t true (eqb c.args.b 69)) (eq-eqb _ 101 c.if-b-eq101.true))

pub returns : goal.returns
returns c = sym (ap (λ (t : Bool). cond t true (eqb c.args.b 69)) (ne_eqb _ 101 c.if-b-eq101.false))
