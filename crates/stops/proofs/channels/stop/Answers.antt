-- `stops::stop` meets its contract: a position and a colour. Assumes nothing.
use Rattle.blend.proofs.Channels.{same_stop}
use Rattle.stops.proofs.channels.stop.Goals as goal

pub returns : goal.returns
returns c = same_stop c.item-position.ensures c.colour-colour.ensures
