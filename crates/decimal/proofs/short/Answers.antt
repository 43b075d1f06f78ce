-- `decimal::short` meets its contract: both casts are exact, so that the division rounds d / p. Assumes nothing.
use mathlib.Core.Path.{sym, ap, ◌∙◌}
use mathlib.Core.Bool.{Bool}
use Prim.Native.Nat.{◌^◌}
use native.Mathlib.Omega.{arith}
use lib.Dec.{le→leb}
use lib.Ieee.{binary32, neg, round, in_float}
use Rattle.decimal.proofs.Quick.{quotient, neg-round}
use Rattle.decimal.proofs.short.Goals as goal

pub int_to_float-x : goal.int_to_float-x
unfolding in_float
int_to_float-x c = le→leb c.args.d (2 ^ 24) (omega arith)

pub int_to_float-x-2 : goal.int_to_float-x-2
unfolding in_float
int_to_float-x-2 c = le→leb c.args.p (2 ^ 24) (omega arith)

pub returns-then-neg : goal.returns-then-neg
returns-then-neg c =
    let a = c.args in
    ap neg (quotient a.d a.p (omega arith) (omega arith) (omega arith)) ∙ neg-round binary32 a.d a.p ∙ ap (λ (s : Bool). round binary32 s a.d a.p) (sym c.if-neg.true)

pub returns-else-neg : goal.returns-else-neg
returns-else-neg c =
    let a = c.args in
    quotient a.d a.p (omega arith) (omega arith) (omega arith) ∙ ap (λ (s : Bool). round binary32 s a.d a.p) (sym c.if-neg.false)
