-- `is_cell_clear` meets its contract: the cell from its one end to the next. Assumes nothing.
use mathlib.Core.Path.{◌∙◌}
use native.Mathlib.Omega.{arith}
use Rattle.sampling.proofs.Ends.{end_is}
use Rattle.refresh.proofs.reach.Domains.{end_within}
use Rattle.refresh.proofs.reach.Kept.{clear_is}
use Rattle.refresh.proofs.reach.is_cell_clear.Goals as goal

pub is_clear-requires : goal.is_clear-requires
is_clear-requires c =
    let a = c.args in
    let h = c.requires in
    let first = c.edge-t0.ensures ∙ end_is a.min a.max a.i (omega (arith, h.1)) in
    let last = c.edge-t1.ensures ∙ end_is a.min a.max _ (omega (arith, h.1)) in
    (end_within _ _ h.0 _ _ (omega (arith, h.1)) first, end_within _ _ h.0 _ _ (omega (arith, h.1)) last)

pub returns : goal.returns
returns c =
    let a = c.args in
    let first = c.edge-t0.ensures ∙ end_is a.min a.max a.i (omega (arith, c.requires.1)) in
    let last = c.edge-t1.ensures ∙ end_is a.min a.max _ (omega (arith, c.requires.1)) in
    c.is_clear.ensures ∙ clear_is _ _ _ _ _ _ first last
