-- `judge` meets its contract: the ramp is refused, or its list is judged. Assumes nothing.
use mathlib.Core.Path.{sym, ◌∙◌}
use Rattle.judge.proofs.Answering.{judge_refused, judge_done}
use Rattle.judge.proofs.judge.Goals as goal

pub judge_list-requires : goal.judge_list-requires
judge_list-requires c = sym c.check_sample.ensures.answer ∙ c.in-Fine.is

pub returns-in-Refused : goal.returns-in-Refused
returns-in-Refused c = judge_refused _ _ _ _ (sym c.check_sample.ensures.answer ∙ c.in-Refused.is)

pub returns-in-Fine : goal.returns-in-Fine
returns-in-Fine c =
    judge_done _ _ _ (sym c.check_sample.ensures.answer ∙ c.in-Fine.is) c.judge_list.ensures
