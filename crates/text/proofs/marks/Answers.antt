-- `marks` meets its contract: what is left has the marks left. Assumes nothing.
use native.Mathlib.Omega.{arith}
use mathlib.Core.Path.{sym, ◌∙◌}
use Rattle.text.proofs.Bytes.{marks_no, marks_yes, marks_room}
use Rattle.text.proofs.marks.Goals as goal

pub loop-at-smaller : goal.loop-at-smaller
loop-at-smaller c = omega (arith, marks_room c.args.s.now c.loop-at.at c.starts_with.ensures c.loop-at-test.true)

pub loop-at-preserved : goal.loop-at-preserved
loop-at-preserved c = (
  omega (arith, marks_room c.args.s.now c.loop-at.at c.starts_with.ensures c.loop-at-test.true),
  sym (marks_yes c.args.s.now c.loop-at.at c.starts_with.ensures c.loop-at-test.true) ∙ c.loop-at.invariant.1,
)

pub returns : goal.returns
returns c = (c.loop-at.invariant.0, sym (marks_no c.args.s.now c.loop-at.at c.starts_with.ensures c.loop-at-test.false) ∙ c.loop-at.invariant.1)
