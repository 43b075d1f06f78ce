-- `entry_at` meets its contract: what the sum rounds to where that is clear, else what the table holds. Assumes nothing.
use Rattle.sine.proofs.Bent.{near_most, told_low, told_high}
use Rattle.sine.proofs.entry_at.Goals as goal

pub height-h-requires : goal.height-h-requires
height-h-requires c = near_most c.args.i c.requires c.from_end.ensures

pub returns-then-i-le512 : goal.returns-then-i-le512
returns-then-i-le512 c =
    told_low c.args.i c.requires c.from_end.ensures c.height-h.ensures.0 c.if-n-h.false c.if-i-le512.true

pub returns-else-i-le512 : goal.returns-else-i-le512
returns-else-i-le512 c =
    told_high c.args.i c.requires c.from_end.ensures c.height-h.ensures.0 c.if-n-h.false c.if-i-le512.false
