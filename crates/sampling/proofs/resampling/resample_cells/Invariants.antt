-- `resample_cells` meets its contract: after i turns the first i cells are done, s is carried to the next, and its pair is drawn. Assumes nothing.
use Rattle.gradient.specs.Lent.{lent_ramp}
use Rattle.gradient.specs.Ramp.{colour_of}
use Rattle.difference.specs.Difference.{exceeds}
use Rattle.sampling.specs.Anew.{kept_by}
use Rattle.sampling.specs.inner.Steps.{Carrying}
use Rattle.sampling.proofs.Renewing.{Renewed}
use Rattle.sampling.proofs.resampling.resample_cells.Given as goal

abbrev pub invariant-loop-i : goal.invariant-loop-i
invariant-loop-i l =
    Renewed (colour_of (lent_ramp l.ramp)) (exceeds l.task.cutoff) (kept_by l.fn.keep) l.task.min l.task.max l.initial.rows l.initial.counts l.rows l.counts l.s l.i × Carrying (lent_ramp l.ramp) l.s.point.pair l.drawn
