-- `flatten_within` meets its contract: a fresh sampling, then the list of its points; a refusal before the list changes nothing. Assumes nothing.
use Rattle.sampling.proofs.Answers.{fresh_is, fresh_bound}
use Rattle.sampling.proofs.Checks.{ramp_fine}
use Rattle.linearize.proofs.Lists.{after_few}
use Rattle.linearize.proofs.Records.{fresh_ready}
use Rattle.within.proofs.Sites.{positions_few}
use Rattle.within.proofs.Making.{made_few, flatten_refused, flatten_done}
use Rattle.within.proofs.flatten_within.Goals as goal

pub list_within-made-requires : goal.list_within-made-requires
list_within-made-requires c =
    let w = fresh_is _ _ _ _ _ c.in-Done.is c.sample.ensures in
    (fresh_ready _ _ _ w.left, ramp_fine _ _ _ _ w.fine)

pub returns-in-Refused : goal.returns-in-Refused
returns-in-Refused c =
    flatten_refused _ _ _ _ _ _ _ c.in-Refused.is c.sample.ensures

pub returns-in-Done : goal.returns-in-Done
returns-in-Done c =
    let w = fresh_is _ _ _ _ _ c.in-Done.is c.sample.ensures in
    let few = made_few _ _ _ _ _ (fresh_ready _ _ _ w.left) (positions_few _ (ramp_fine _ _ _ _ w.fine)) _ _ c.list_within-made.ensures in
    flatten_done _ _ _ _ _ _ _ _ w c.list_within-made.ensures (after_few _ c.list_within-made.result c.after.ensures (fresh_bound _ _ _ w.spent) few)
