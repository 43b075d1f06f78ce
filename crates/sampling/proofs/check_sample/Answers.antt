-- `check_sample` meets its contract: the ramp's own refusal first. Assumes nothing.
use mathlib.Core.Path.{sym, ◌∙◌}
use Rattle.stops.proofs.Checking.{checks}
use Rattle.sampling.proofs.Checks.{first_refuses, first_passes}
use Rattle.sampling.proofs.check_sample.Goals as goal

pub returns-in-Refused : goal.returns-in-Refused
returns-in-Refused c = checks (first_refuses _ _ _ _ _ (sym c.check.ensures.answer ∙ c.in-Refused.is))

pub returns-in-Fine : goal.returns-in-Fine
returns-in-Fine c = checks (first_passes _ _ _ _ _ _ _ (sym c.check.ensures.answer ∙ c.in-Fine.is) c.min.ensures c.max.ensures c.check_shape.ensures)
