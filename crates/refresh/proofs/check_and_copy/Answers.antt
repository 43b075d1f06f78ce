-- `check_and_copy` meets its contract: its answer is that of the check, and where it is yes the copy is the changed ramp. Assumes nothing.
use mathlib.Core.Path.{sym, ◌∙◌}
use Rattle.refresh.proofs.Preparing.{refuses, prepares}
use Rattle.refresh.proofs.check_and_copy.Goals as goal

pub returns-in-Refused : goal.returns-in-Refused
returns-in-Refused c = refuses _ _ _ _ _ _ (sym c.check_thin.ensures.answer ∙ c.in-Refused.is)

pub returns-in-Fine : goal.returns-in-Fine
returns-in-Fine c =
    prepares _ _ _ _ _ (sym c.check_thin.ensures.answer ∙ c.in-Fine.is) c.requires.0 c.requires.1 _ c.copy.ensures
