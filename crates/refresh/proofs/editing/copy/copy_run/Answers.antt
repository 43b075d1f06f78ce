-- `copy_run` meets its contract: what stands before and after stays. Assumes nothing.
use mathlib.Core.Path.{ap, ◌∙◌}
use mathlib.Core.List.{List, ◌++◌}
use Prim.Native.Nat.{◌+◌, ◌-◌}
use native.Mathlib.Omega.{arith}
use lib.ListN.{length, take, drop}
use lib.Ieee.{Float}
use Rattle.slices.proofs.Stores.{part_sets}
use Rattle.refresh.proofs.editing.copy.copy_run.Goals as goal

pub returns : goal.returns
returns c =
    let from = c.args.from.now in
    let to = c.args.to.now in
    let at = c.args.at in
    let end = at + length from in
    ap (λ (x : List Float). take at to ++ (x ++ drop (end - at) (drop at to))) c.copy_from_slice.ensures.after
    ∙ part_sets to from at end (omega arith) (omega arith) (omega arith)
