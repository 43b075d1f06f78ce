-- `decimal::read` meets its contract: by the first byte. Assumes nothing.
use mathlib.Core.Path.{sym, ap, ◌∙◌}
use mathlib.Core.Bool.{true, false}
use native.Mathlib.Omega.{arith}
use Rattle.decimal.specs.Decimal.{unsigned_of}
use Rattle.decimal.proofs.Place.{read_empty, read_minus, read_plus, read_plain, part_to_end}
use Rattle.decimal.proofs.read.Goals as goal

pub returns-then-s-eq0 : goal.returns-then-s-eq0
returns-then-s-eq0 c = sym (read_empty _ c.if-s-eq0.true)

pub returns-then-b-eq45 : goal.returns-then-b-eq45
returns-then-b-eq45 c =
    let s = c.args.s.now in
    c.unsigned.ensures ∙ ap (unsigned_of true) (part_to_end s 1) ∙ sym (read_minus s (omega arith) c.if-b-eq45.true)

pub returns-then-b-eq43 : goal.returns-then-b-eq43
returns-then-b-eq43 c =
    let s = c.args.s.now in
    c.unsigned-then-b-eq43.ensures ∙ ap (unsigned_of false) (part_to_end s 1) ∙ sym (read_plus s (omega arith) c.if-b-eq43.true)

pub returns : goal.returns
returns c = c.unsigned-2.ensures ∙ sym (read_plain _ (omega arith) c.if-b-eq45.false c.if-b-eq43.false)
