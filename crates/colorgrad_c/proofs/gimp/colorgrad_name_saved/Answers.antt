-- `colorgrad_name_saved` meets its contract: the name of `ggr`, written. Assumes nothing.
use Rattle.colorgrad_c.proofs.Writing.{written_same}
use Rattle.colorgrad_c.proofs.gimp.colorgrad_name_saved.Goals as goal

pub returns : goal.returns
returns c = let k = written_same _ (c.write_name.ensures.value, c.write_name.ensures.out_after) c.name_saved.ensures in record { value = k.0; out_value = k.1 }
