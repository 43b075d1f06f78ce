-- `Ramp::check` meets its contract: by the kind. Assumes nothing.
use mathlib.Core.Path.{sym, ◌∙◌}
use Rattle.stops.proofs.Checking.{checks}
use Rattle.gradient.specs.Ramp.{check_of}
use Rattle.gradient.proofs.Ramp.check.Goals as goal

pub returns-then-is_gimp : goal.returns-then-is_gimp
unfolding check_of
returns-then-is_gimp c = checks (c.check.ensures.answer ∙ simp (sym c.is_gimp.ensures ∙ c.if-is_gimp.true))

pub returns-else-is_gimp : goal.returns-else-is_gimp
unfolding check_of
returns-else-is_gimp c = checks (c.check-else-is_gimp.ensures.answer ∙ simp (sym c.is_gimp.ensures ∙ c.if-is_gimp.false))
