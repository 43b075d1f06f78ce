-- `fill_each` meets its contract: the colours so far are there, and the pair of the last point is drawn. Assumes nothing.
use mathlib.Core.Path.{◌≡◌}
use Prim.Native.Nat.{◌≤◌}
use lib.ListN.{length}
use Rattle.gradient.specs.Lent.{lent_ramp}
use Rattle.gradient.specs.Ramp.{colour_of}
use Rattle.sampling.specs.inner.Steps.{Carrying}
use Rattle.within.proofs.Blocks.{Filled}
use Rattle.within.proofs.block.fill_each.Given as goal

abbrev pub invariant-loop-i : goal.invariant-loop-i
invariant-loop-i l =
    (l.i ≤ l.count) × ((length l.block ≡ 1024) × (Filled (colour_of (lent_ramp l.ramp)) l.ts l.base l.i l.block × Carrying (lent_ramp l.ramp) l.guess l.drawn))
