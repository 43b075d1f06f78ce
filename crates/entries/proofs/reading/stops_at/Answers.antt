-- `stops_at` meets its contract: line by line, the stops taken and those left are the stops of the lines. Assumes nothing.
use borrow.Author.Rules.{rules}
use native.Mathlib.Omega.{arith}
use Rattle.entries.proofs.Inputs.{shorter, taken_none, taken_few, taken_next, block_other, block_done}
use Rattle.entries.proofs.reading.stops_at.Goals as goal

pub loop-at-init : goal.loop-at-init
loop-at-init c = taken_none c.args.s.now c.args.from c.args.positions.now c.args.channels.now c.requires.0

pub step_at-step-requires : goal.step_at-step-requires
step_at-step-requires c = c.loop-at.invariant.inside

pub returns-in_default : goal.returns-in_default
returns-in_default c = block_other c.loop-at.invariant (search rules) c.step_at-step.ensures c.in_default.not-Stop

pub overflow_mul-n : goal.overflow_mul-n
overflow_mul-n c = omega (arith, taken_few c.loop-at.invariant, c.requires.1)

pub overflow_add-n : goal.overflow_add-n
overflow_add-n c = omega (arith, taken_few (taken_next c.loop-at.invariant (search rules) c.step_at-step.ensures c.in-Stop.is c.put.ensures c.put_colour.ensures))

pub loop-at-smaller : goal.loop-at-smaller
loop-at-smaller c = shorter c.args.s.now c.loop-at.at (search rules) c.step_at-step.ensures

pub loop-at-preserved : goal.loop-at-preserved
loop-at-preserved c = taken_next c.loop-at.invariant (search rules) c.step_at-step.ensures c.in-Stop.is c.put.ensures c.put_colour.ensures

pub returns : goal.returns
returns c = block_done c.loop-at.invariant (search rules)
