-- `weigh` meets its contract: the same operations, and no branch. Assumes nothing.
use Rattle.difference.specs.Difference.{exceeds}
use Rattle.thinning.proofs.Walks.{weighed_is}
use Rattle.thinning.proofs.weigh.Goals as goal

pub returns : goal.returns
returns c =
    let a = c.args in
    weighed_is (exceeds a.cutoff) a.last a.x a.next c.near-skipped.ensures c.interpolate_linear-foretold.ensures c.stands_out-far.ensures
