-- `edited_list` meets its contract: the record is that of the ramp as it was, and the list is the one that the refresh makes. Assumes nothing.
use Rattle.linearize.proofs.Lists.{after_few}
use Rattle.refresh.proofs.RefreshAnswers.{refresh_list_most}
use Rattle.desk.proofs.Making.{says_listed, sample_no, sample_few, relist_fits, relist_same}
use Rattle.desk.proofs.calls.edited_list.Goals as goal

pub reply_of-requires : goal.reply_of-requires
reply_of-requires c =
    let few = sample_few c.args.edit c.sample.ensures c.in-Done.is in
    let made = after_few _ c.refresh_list-made.result c.after.ensures few (refresh_list_most _ _ _ _ _ _ c.refresh_list-made.ensures) in
    relist_fits c.args.edit c.sample.ensures c.in-Done.is c.requires c.refresh_list-made.ensures made

pub returns-in-Refused : goal.returns-in-Refused
returns-in-Refused c =
    sample_no c.args.edit c.sample.ensures c.in-Refused.is

pub returns-in-Done : goal.returns-in-Done
returns-in-Done c =
    let few = sample_few c.args.edit c.sample.ensures c.in-Done.is in
    let made = after_few _ c.refresh_list-made.result c.after.ensures few (refresh_list_most _ _ _ _ _ _ c.refresh_list-made.ensures) in
    says_listed c.after.result c.reply_of.ensures (relist_same c.args.edit c.sample.ensures c.in-Done.is c.requires c.refresh_list-made.ensures made)
