-- `never_falls` meets its contract: what is left rises from the position before as the whole does. Assumes nothing.
use mathlib.Core.Path.{refl}
use mathlib.Core.Bool.{true}
use lib.Ieee.{inf, div, neg, of_bits}
use Rattle.ggr_writing.proofs.Checks.{rises_falls, rises_next, rises_done}
use Rattle.ggr_writing.proofs.never_falls.Goals as goal

pub loop-p-init : goal.loop-p-init
unfolding div neg of_bits
loop-p-init c = refl

pub returns-then-p-prev : goal.returns-then-p-prev
returns-then-p-prev c = rises_falls c.args.positions.now c.loop-p.prev (inf true) c.loop-p.p-index c.loop-p.invariant c.loop-p-test.true c.if-p-prev.true

pub loop-p-preserved : goal.loop-p-preserved
loop-p-preserved c = rises_next c.args.positions.now c.loop-p.prev (inf true) c.loop-p.p-index c.loop-p.invariant c.loop-p-test.true c.if-p-prev.false

pub returns : goal.returns
returns c = rises_done c.args.positions.now c.loop-p.prev (inf true) c.loop-p.p-index c.loop-p.invariant c.loop-p-test.false
