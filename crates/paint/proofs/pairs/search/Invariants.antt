-- `pairs::search` meets its contract. The invariant: the position at the base is below t, the one past the size is not, and the size is a power of two. Assumes nothing.
use Prim.Native.Nat.{◌+◌, ◌<◌}
use lib.ListN.{length}
use Rattle.paint.proofs.Searching.{Around}
use Rattle.paint.proofs.pairs.search.Given as goal

abbrev pub invariant-loop-size : goal.invariant-loop-size
invariant-loop-size l = (l.base + l.size < length l.positions) × Around l.positions l.t l.base l.size

abbrev pub decreases-loop-size : goal.decreases-loop-size
decreases-loop-size l = l.size
