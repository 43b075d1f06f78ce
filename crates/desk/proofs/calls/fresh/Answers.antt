-- `fresh` meets its contract: the list is the one that flattening makes. Assumes nothing.
use Rattle.desk.proofs.Making.{says_listed, fresh_fits, fresh_same}
use Rattle.desk.proofs.calls.fresh.Goals as goal

pub reply_of-requires : goal.reply_of-requires
reply_of-requires c =
    fresh_fits c.requires c.flatten-made.ensures

pub returns : goal.returns
returns c =
    says_listed c.flatten-made.result c.reply_of.ensures (fresh_same c.requires c.flatten-made.ensures)
