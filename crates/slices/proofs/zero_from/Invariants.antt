-- `zero_from` meets its contract: the front of the part is zero, and the rest as it was. Assumes nothing.
use Rattle.std.proofs.Common.{◌≡◌, ◌++◌, replicate, drop}
use Rattle.float.specs.F32.{f0}
use Rattle.slices.proofs.zero_from.Given as goal

abbrev pub invariant-loop-place : goal.invariant-loop-place
invariant-loop-place l = l.place-items ≡ replicate l.place-index f0 ++ drop l.place-index l.initial.place-items
