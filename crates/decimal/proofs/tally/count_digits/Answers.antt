-- `decimal::tally::count_digits` meets its contract: zeros, digits that count, and what is after the 19th. Assumes nothing.
use Rattle.decimal.proofs.LongRuns.{counting_join, counting_done}
use Rattle.decimal.proofs.tally.count_digits.Goals as goal

pub count_first-first-requires : goal.count_first-first-requires
count_first-first-requires c =
    let p = c.requires in
    let z = c.past_zeros-at.ensures.counts _ _ p.1.0 p.1.1 in
    record { from_in_bounds = (z.run.within, (z.zeros, z.small)); no_zero = c.past_zeros-at.ensures.other }

pub returns-then-first-lt-MOST_SIGNIFICANT : goal.returns-then-first-lt-MOST_SIGNIFICANT
returns-then-first-lt-MOST_SIGNIFICANT c =
    let p = c.requires in
    counting_done _ _ _ _ _ _ _ _ _ (counting_join _ _ _ _ _ _ _ _ _ _ _ _ _ (c.past_zeros-at.ensures.counts _ _ p.1.0 p.1.1) c.count_first-first.ensures.part) (c.count_first-first.ensures.stops c.if-first-lt-MOST_SIGNIFICANT.true)

pub count_more-requires : goal.count_more-requires
count_more-requires c = let f = c.count_first-first.ensures.part in record { from_in_bounds = (f.run.within, (f.zeros, f.small)); most_significant_le_count = c.if-first-lt-MOST_SIGNIFICANT.false }

pub returns : goal.returns
returns c =
    let p = c.requires in
    let m = c.count_more.ensures in
    counting_done _ _ _ _ _ _ _ _ _
    (counting_join _ _ _ _ _ _ _ _ _ _ _ _ _ (c.past_zeros-at.ensures.counts _ _ p.1.0 p.1.1) (counting_join _ _ _ _ _ _ _ _ _ _ _ _ _ c.count_first-first.ensures.part m.part))
    m.stops
