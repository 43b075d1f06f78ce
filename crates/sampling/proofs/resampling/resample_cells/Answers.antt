-- `resample_cells` meets its contract: after i turns the first i cells are done, s is carried to the next, and its pair is drawn. Assumes nothing.
use mathlib.Core.Path.{refl, ◌∙◌}
use native.Mathlib.Omega.{arith}
use Rattle.sampling.proofs.Renewing.{renewed_start, renewed_next, renewed}
use Rattle.sampling.proofs.resampling.resample_cells.Goals as goal

pub loop-i-init : goal.loop-i-init
loop-i-init c =
    let w = c.nothing_known-s.ensures in
    (renewed_start _ _ _ _ _ _ _ _ w.0 w.1.0, (λ d l. absurd (omega (arith, l, w.1.1))))

pub resample_cell-s-requires : goal.resample_cell-s-requires
resample_cell-s-requires c =
    let l = c.loop-i in
    record { i_lt_cells = (omega (arith, c.loop-i-test.true), (l.invariant.0.filled.rows-length ∙ c.requires.rows_len.0, l.invariant.0.filled.counts_length ∙ c.requires.rows_len.1)); reaches = record { fine = c.requires.codes_value; drawn = l.invariant.1; carries = l.invariant.0.carried } }

pub loop-i-preserved : goal.loop-i-preserved
loop-i-preserved c =
    let l = c.loop-i in
    let w = c.resample_cell-s.ensures in
    (renewed_next _ _ _ _ _ _ _ c.requires.rows_len.0 c.requires.rows_len.1 l.rows _ l.counts _ l.s c.resample_cell-s.result l.i _ refl l.invariant.0 (omega (arith, c.loop-i-test.true)) w.cell_carried, w.carrying)

pub returns : goal.returns
returns c =
    let l = c.loop-i in
    renewed _ _ _ _ _ _ _ c.requires.rows_len.0 c.requires.rows_len.1 l.rows l.counts l.s l.i l.invariant.0 (omega (arith, c.loop-i-test.false))
