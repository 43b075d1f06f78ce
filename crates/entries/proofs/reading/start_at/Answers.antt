-- `start_at` meets its contract: the line is a threshold, or it is left for the stops. Assumes nothing.
use Rattle.entries.proofs.Inputs.{start_none, start_other, start_some}
use Rattle.entries.proofs.reading.start_at.Goals as goal

pub returns-in-Threshold : goal.returns-in-Threshold
returns-in-Threshold c = start_some c.args.s.now c.args.at c.if-at-s.true c.step_at-step.ensures c.in-Threshold.is

pub returns-in_default : goal.returns-in_default
returns-in_default c = start_other c.args.s.now c.args.at c.if-at-s.true c.step_at-step.ensures c.in_default.not-Threshold

pub returns-else-at-s : goal.returns-else-at-s
returns-else-at-s c = start_none c.args.s.now c.args.at c.if-at-s.false c.requires
