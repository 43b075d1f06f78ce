-- `at` meets its contract: the check, then the colour or the refusal. Assumes nothing.
use mathlib.Core.Path.{sym, ◌∙◌}
use Rattle.gradient.specs.Lent.{lent_ramp}
use Rattle.paint.proofs.Painting.{at_coloured, at_refused}
use Rattle.paint.proofs.at.Goals as goal

pub returns-in-Fine : goal.returns-in-Fine
returns-in-Fine c = at_coloured (lent_ramp c.args.ramp.now) (sym c.check.ensures.answer ∙ c.in-Fine.is) c.args.t c.colour_at.ensures

pub returns-in-Refused : goal.returns-in-Refused
returns-in-Refused c = at_refused (lent_ramp c.args.ramp.now) (sym c.check.ensures.answer ∙ c.in-Refused.is) c.args.t
