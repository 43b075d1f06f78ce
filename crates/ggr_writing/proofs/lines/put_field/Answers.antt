-- `put_field` meets its contract: the text, then the space. Assumes nothing.
use native.Mathlib.Omega.{arith}
use mathlib.Core.Path.{sym}
use Rattle.ggr_writing.proofs.Texts.{field_put, field_size, field_within}
use Rattle.ggr_writing.proofs.lines.put_field.Goals as goal

pub slice_bounds-bytes-end : goal.slice_bounds-bytes-end
slice_bounds-bytes-end c = field_within c.args.x c.write-t.ensures

pub slice_bounds-put_all-end : goal.slice_bounds-put_all-end
slice_bounds-put_all-end c = sym (field_size c.args.x c.write-t.ensures)

pub returns : goal.returns
returns c = field_put c.args.x c.write-t.ensures c.put_all-end.ensures c.put.ensures (omega arith)
