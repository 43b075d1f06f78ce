-- `span_end` meets its contract: what is left of the run is added to the place reached. Assumes nothing.
use borrow.Author.Rules.{rules}
use native.Mathlib.Omega.{arith}
use mathlib.Core.Path.{◌≡◌}
use mathlib.Core.Bool.{true, false}
use lib.ListN.{get_or}
use Rattle.float.proofs.Flags.{failed, passed}
use Rattle.text.specs.Places.{in_class}
use Rattle.text.proofs.Bytes.{span_yes, span_no, span_none}
use Rattle.text.proofs.span_end.Goals as goal

pub returns-then-not-belongs : goal.returns-then-not-belongs
returns-then-not-belongs c = let a = c.args in
    let t : in_class a.k (get_or a.s.now c.loop-i.i 0) ≡ false = failed c.if-not-belongs.true c.belongs.ensures in
    omega (arith, span_no (in_class a.k) a.s.now c.loop-i.i (search rules) t)

pub loop-i-preserved : goal.loop-i-preserved
loop-i-preserved c = let a = c.args in
    let t : in_class a.k (get_or a.s.now c.loop-i.i 0) ≡ true = passed c.if-not-belongs.false c.belongs.ensures in
    omega (arith, span_yes (in_class a.k) a.s.now c.loop-i.i (search rules) t)

pub returns : goal.returns
returns c = grind (arith, span_none (in_class c.args.k) c.args.s.now)
