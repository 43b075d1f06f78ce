-- `Ramp::min` meets its contract: by the kind. Assumes nothing.
use mathlib.Core.Path.{sym, ◌∙◌}
use Rattle.gradient.specs.Ramp.{min_in}
use Rattle.gradient.proofs.Ramp.min.Goals as goal

pub returns-then-is_gimp : goal.returns-then-is_gimp
unfolding min_in
returns-then-is_gimp c = simp (sym c.is_gimp.ensures ∙ c.if-is_gimp.true)

pub returns-else-is_gimp : goal.returns-else-is_gimp
unfolding min_in
returns-else-is_gimp c = c.item.ensures ∙ simp (sym c.is_gimp.ensures ∙ c.if-is_gimp.false)
