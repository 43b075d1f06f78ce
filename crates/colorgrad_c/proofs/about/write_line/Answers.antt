-- `write_line` meets its contract: the line, written as a name is. Assumes nothing.
use Rattle.colorgrad_c.proofs.Writing.{written_same}
use Rattle.colorgrad_c.proofs.about.write_line.Goals as goal

pub returns : goal.returns
returns c = let k = written_same _ (c.write_name.ensures.value, c.write_name.ensures.out_after) c.line.ensures in record { value = k.0; out_value = k.1 }
