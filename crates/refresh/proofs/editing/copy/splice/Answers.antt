-- `splice` meets its contract: what stands before, what is put in, what stands after. Assumes nothing.
use native.Mathlib.Omega.{arith}
use Rattle.refresh.proofs.editing.Splices.{runs_joined}
use Rattle.refresh.proofs.editing.copy.splice.Goals as goal

pub returns : goal.returns
returns c =
    let a = c.args in
    runs_joined a.to.now c.copy_run.new.to c.copy_run-2.new.to c.copy_run-3.new.to a.from.now a.items.now a.at a.gone (omega (arith, c.requires.0))
    c.copy_run.ensures c.copy_run-2.ensures c.copy_run-3.ensures
