-- `put_file` meets its contract: the heading, the count, the lines. Assumes nothing.
use native.Mathlib.Omega.{arith}
use Rattle.ggr_writing.proofs.Final.{file_put}
use Rattle.ggr_writing.proofs.lines.put_file.Goals as goal

pub returns : goal.returns
returns c = file_put c.args.positions.now c.args.channels.now c.saturating_sub-n.ensures c.requires c.put_all-head.ensures c.put_decimal-count.ensures c.put-first.ensures c.put_rows.ensures (omega arith)
