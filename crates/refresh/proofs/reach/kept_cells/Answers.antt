-- `kept_cells` meets its contract: without a domain no cell is kept; else each is told. Assumes nothing.
use mathlib.Core.Bool.{false}
use native.Mathlib.Omega.{arith}
use Rattle.std.proofs.Common.{rules}
use Rattle.float.proofs.Flags.{failed, passed}
use Rattle.sampling.specs.Constants.{cells}
use Rattle.refresh.specs.reach.Stretch.{outside_of, cell_clear}
use Rattle.refresh.proofs.reach.Given.{given}
use Rattle.refresh.proofs.reach.Kept.{no_domain, all_told}
use Rattle.refresh.proofs.reach.kept_cells.Goals as goal

pub returns-then-not-is_domain : goal.returns-then-not-is_domain
returns-then-not-is_domain c = no_domain _ _ _ (failed c.if-not-is_domain.true c.is_domain.ensures)

pub returns : goal.returns
returns c =
    let a = c.args in
    let told = c.from_fn.ensures.items in
    all_told _ _ _ (passed c.if-not-is_domain.false c.is_domain.ensures) c.from_fn.result told.long
    (λ i l. given _ _ (cell_clear (outside_of a.s) a.min a.max) (λ i y q called. search rules) cells 0 c.from_fn.result told.each i false (omega arith) (omega arith))
