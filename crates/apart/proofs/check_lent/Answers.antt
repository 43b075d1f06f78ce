-- `check_lent` meets its contract: the ramp, then the others. Assumes nothing.
use mathlib.Core.Path.{sym, ◌∙◌}
use Rattle.apart.proofs.Checking.{ramp_refused, ramp_passed}
use Rattle.apart.proofs.check_lent.Goals as goal

pub returns-in-Refused : goal.returns-in-Refused
returns-in-Refused c = ramp_refused _ _ _ _ _ (sym c.check_sample.ensures.answer ∙ c.in-Refused.is)

pub returns-in-Fine : goal.returns-in-Fine
returns-in-Fine c =
    ramp_passed _ _ _ _ (sym c.check_sample.ensures.answer ∙ c.in-Fine.is) c.min-min.ensures c.max-max.ensures c.check_given.ensures
