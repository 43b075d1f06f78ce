-- `flatten` meets its contract: a list after a resampling with no cell kept. Assumes nothing.
use Rattle.linearize.proofs.Relisting.{flatten_of}
use Rattle.linearize.proofs.flatten.Goals as goal

pub returns : goal.returns
returns c = flatten_of _ _ _ _ _ c.relist.ensures
