-- `is_clear` meets its contract on one outer side: there the midpoints need not be tried. Assumes nothing.
use mathlib.Core.Path.{sym, ◌∙◌}
use Rattle.refresh.proofs.reach.Sides.{before_clear, after_clear}
use Rattle.refresh.proofs.reach.stretch.is_clear.Goals as goal

pub returns-then-lies_before-2 : goal.returns-then-lies_before-2
returns-then-lies_before-2 c = sym (before_clear _ _ _ c.requires.0 c.requires.1 (sym c.lies_before.ensures ∙ c.if-lies_before.true) (sym c.lies_before-then-lies_before.ensures ∙ c.if-lies_before-2.true))

pub returns-then-lies_after-2 : goal.returns-then-lies_after-2
returns-then-lies_after-2 c = sym (after_clear _ _ _ c.requires.0 c.requires.1 (sym c.lies_after.ensures ∙ c.if-lies_after.true) (sym c.lies_after-then-lies_after.ensures ∙ c.if-lies_after-2.true))
