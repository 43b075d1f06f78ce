-- `ending_at` meets its contract: an edit and nothing after it, or nothing. Assumes nothing.
use borrow.Author.Rules.{rules}
use Rattle.entries.proofs.Inputs.{ending_none, ending_other, ending_more, ending_last}
use Rattle.entries.proofs.reading.ending_at.Goals as goal

pub returns-then-s-at : goal.returns-then-s-at
returns-then-s-at c = ending_none c.args.s.now c.args.at c.args.line c.if-s-at.true

pub returns-in_default : goal.returns-in_default
returns-in_default c = ending_other c.args.s.now c.args.at c.args.line (search rules) c.step_at-step.ensures c.in_default.not-Change

pub returns-then-step-s : goal.returns-then-step-s
returns-then-step-s c = ending_more c.args.s.now c.args.at c.args.line (search rules) c.step_at-step.ensures c.in-Change.is c.if-step-s.true

pub returns : goal.returns
returns c = ending_last c.args.s.now c.args.at c.args.line (search rules) c.step_at-step.ensures c.in-Change.is c.if-step-s.false
