-- `put_list` meets its contract: the counts, then the lines. Assumes nothing.
use native.Mathlib.Omega.{arith}
use Rattle.writing.proofs.Texts.{list_put}
use Rattle.writing.proofs.put_list.Goals as goal

pub returns : goal.returns
returns c = list_put c.args.n c.args.evaluations c.args.positions.now c.args.channels.now (omega arith) c.put_all-word.ensures c.put_decimal-count.ensures c.put_all-second.ensures c.put_decimal-end.ensures c.put-next.ensures c.put_rows.ensures (omega arith)
