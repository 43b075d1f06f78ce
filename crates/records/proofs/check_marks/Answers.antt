-- `check_marks` meets its contract: the record's words are the call's own, or not. Assumes nothing.
use Rattle.std.proofs.Common.{◌≡◌}
use Rattle.sampling.specs.Sampling.{marks_in}
use Rattle.records.proofs.Marking.{marks_is}
use Rattle.records.proofs.check_marks.Goals as goal

pub returns-then-eq : goal.returns-then-eq
returns-then-eq c =
    let own : c.as_slice.result.now ≡ marks_in c.args.ramp.now.kind c.args.ramp.now.positions.now c.args.threshold = cc in
    marks_is _ _ c.args.marks.now own c.eq.ensures c.if-eq.true

pub returns-else-eq : goal.returns-else-eq
returns-else-eq c =
    let own : c.as_slice.result.now ≡ marks_in c.args.ramp.now.kind c.args.ramp.now.positions.now c.args.threshold = cc in
    marks_is _ _ c.args.marks.now own c.eq.ensures c.if-eq.false
