-- `put_segment` meets its contract: each list by itself. Assumes nothing.
use Rattle.segment.proofs.Stored.{three_lists}
use Rattle.segment.proofs.store.put_segment.Goals as goal

pub returns : goal.returns
returns c =
    three_lists _ _ _ _ _ _ _ _ c.put_positions.ensures c.put_channels.ensures c.put_codes.ensures
