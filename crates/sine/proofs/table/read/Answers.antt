-- `read` meets its contract: the array holds the table. Assumes nothing.
use mathlib.Core.Path.{refl}
use Rattle.sine.specs.Table.{table}
use Rattle.sine.proofs.table.read.Goals as goal

pub returns : goal.returns
unfolding table
returns c = refl
