-- `read_by` meets its contract: what was read is right, or every output is zero. Assumes nothing.
use Rattle.ggr.proofs.Finish.{done_read, done_refused}
use Rattle.ggr.proofs.read_by.Goals as goal

pub returns-in-Refused : goal.returns-in-Refused
returns-in-Refused c =
    let kept = c.read_into-r.auto in
    done_refused _ _ _ c.read_into-r.ensures kept.p kept.c kept.k _ _ c.in-Refused.is _ _ _ c.zero_from.ensures c.zero_from-in-Refused.ensures c.zero_bytes.ensures

pub returns-in_default : goal.returns-in_default
returns-in_default c = done_read _ _ _ c.read_into-r.ensures _ c.in_default.is
