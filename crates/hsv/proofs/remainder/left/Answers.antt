-- `remainder::left` meets its contract: the digits count parts of 1, or are doubled. Assumes nothing.
use mathlib.Core.Path.{refl}
use lib.Dec.{le→leb}
use lib.Ieee.{in_float}
use Rattle.hsv.proofs.Remainders.{parts_of, left_parts, left_whole}
use Rattle.hsv.proofs.remainder.left.Goals as goal

pub overflow_mul-rest : goal.overflow_mul-rest
overflow_mul-rest c = let p = parts_of c.args.a c.args.y c.requires.3 c.requires.0 in record { fits = p.product }

pub int_to_float-result-then-field-lt150 : goal.int_to_float-result-then-field-lt150
unfolding in_float
int_to_float-result-then-field-lt150 c = let p = parts_of c.args.a c.args.y c.requires.3 c.requires.0 in le→leb _ _ p.few

pub returns-then-field-lt150 : goal.returns-then-field-lt150
returns-then-field-lt150 c =
    let h = c.requires in
    let p = parts_of c.args.a c.args.y h.3 h.0 in
    left_parts c.args.a c.args.y h.2 h.3 h.0 h.1 _ _ c.if-field-lt150.true p.is p.few refl

pub returns-else-field-lt150 : goal.returns-else-field-lt150
returns-else-field-lt150 c = let h = c.requires in left_whole c.args.a c.args.y h.2 h.3 h.0 h.1 c.doubled-rest.result c.if-field-lt150.false c.doubled-rest.ensures
