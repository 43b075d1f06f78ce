-- `token_of` meets its contract: a case for each notation. Assumes nothing.
use mathlib.Core.Path.{ap, ◌∙◌}
use Rattle.rows.specs.Rows.{finite_only, token_of}
use Rattle.rows.proofs.token_of.Goals as goal

pub returns-in-Short : goal.returns-in-Short
unfolding token_of
returns-in-Short c = rw c.in-Short.is c.read.ensures

pub returns-in-Long : goal.returns-in-Long
unfolding token_of
returns-in-Long c = rw c.in-Long.is (c.finite_only.ensures ∙ ap finite_only c.read_long.ensures)
