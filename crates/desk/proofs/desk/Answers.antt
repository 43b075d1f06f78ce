-- `desk` meets its contract: an output that holds the text, or one too short for it. Assumes nothing.
use Rattle.desk.proofs.Making.{desk_short, desk_printed}
use Rattle.desk.proofs.desk.Goals as goal

pub returns-then-output-n : goal.returns-then-output-n
returns-then-output-n c = desk_short c.args.input.now c.answer-n.ensures c.if-output-n.true c.zero_bytes.ensures

pub returns : goal.returns
returns c = desk_printed c.args.input.now c.answer-n.ensures c.if-output-n.false
