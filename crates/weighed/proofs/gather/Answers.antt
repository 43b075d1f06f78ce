-- `gather` meets its contract: past the guard all points are merged. Assumes nothing.
use mathlib.Core.Path.{sym, ◌∙◌}
use Rattle.weighed.proofs.Gathering.{few_positions, ready_of, gathered_all, gathered_none}
use Rattle.weighed.proofs.gather.Goals as goal

pub returns-then-not-may_gather : goal.returns-then-not-may_gather
returns-then-not-may_gather c = gathered_none _ _ _ _ _ (sym c.may_gather.ensures ∙ c.if-not-may_gather.true) _ _

pub merge_all-requires : goal.merge_all-requires
merge_all-requires c =
    let h = sym c.may_gather.ensures ∙ c.if-not-may_gather.false in
    let a = c.args in
    (ready_of a.positions.now a.rows.now a.counts.now h, few_positions a.positions.now a.rows.now a.counts.now h)

pub returns : goal.returns
returns c =
    gathered_all _ _ _ _ _ (sym c.may_gather.ensures ∙ c.if-not-may_gather.false) _ _ _ _ _ c.merge_all.ensures
