-- `float::whole_part` meets its contract: below 1, from 2 ^ 64 on, and between, by the exponent's field. Assumes nothing.
use Rattle.float.proofs.WholePart.{part_low, part_high, part_mid}
use Rattle.float.proofs.whole_part.Goals as goal

pub returns-then-field-lt127 : goal.returns-then-field-lt127
returns-then-field-lt127 c = part_low c.args.a c.if-field-lt127.true

pub returns-then-field-gt190 : goal.returns-then-field-gt190
returns-then-field-gt190 c = part_high c.args.a c.requires c.if-field-gt190.true

pub returns-else-field-gt190 : goal.returns-else-field-gt190
returns-else-field-gt190 c = part_mid c.args.a c.if-field-lt127.false c.if-field-gt190.false
