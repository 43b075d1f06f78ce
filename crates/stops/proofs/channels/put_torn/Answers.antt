-- `channels::put_torn` meets its contract: four stores one after the other, each only where there is room. Assumes nothing.
use Rattle.stops.proofs.Colours.{four_stores}
use Rattle.stops.proofs.channels.put_torn.Goals as goal

pub returns : goal.returns
returns c =
    four_stores c.args.out.now _ _ _ _ c.args.k c.args.c c.put.ensures c.put-2.ensures c.put-3.ensures c.put-4.ensures
