-- `step_at` meets its contract: the line at its place, and what it says. Assumes nothing.
use borrow.Author.Rules.{rules}
use native.Mathlib.Omega.{arith}
use Rattle.entries.proofs.Inputs.{step_found}
use Rattle.entries.proofs.reading.step_at.Goals as goal

pub slice_bounds-entry_of-end : goal.slice_bounds-entry_of-end
slice_bounds-entry_of-end c = omega (arith, c.line_at-l.ensures.within (search rules))

pub returns : goal.returns
returns c = step_found c.args.s.now c.args.at c.requires c.line_at-l.ensures c.entry_of.ensures
