-- `sharp::inset_of` meets its contract: by what `soften` and `from_whole` ensure. Assumes nothing.
use Rattle.sharp_ramp.proofs.Laws.{inset_is}
use Rattle.sharp_ramp.proofs.inset_of.Goals as goal

pub returns : goal.returns
returns c = let a = c.args in inset_is a.min a.max a.s a.n c.soften.ensures c.from_whole.ensures
