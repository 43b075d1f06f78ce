-- `Ramp::colour_at` meets its contract: by the kind. Assumes nothing.
use mathlib.Core.Path.{sym, ◌∙◌}
use Rattle.gradient.specs.Ramp.{any_colour}
use Rattle.gradient.proofs.Ramp.colour_at.Goals as goal

pub returns-then-is_gimp : goal.returns-then-is_gimp
unfolding any_colour
returns-then-is_gimp c = c.colour_at.ensures ∙ simp (sym c.is_gimp.ensures ∙ c.if-is_gimp.true)

pub returns-else-is_gimp : goal.returns-else-is_gimp
unfolding any_colour
returns-else-is_gimp c = c.colour_at-else-is_gimp.ensures ∙ simp (sym c.is_gimp.ensures ∙ c.if-is_gimp.false)
