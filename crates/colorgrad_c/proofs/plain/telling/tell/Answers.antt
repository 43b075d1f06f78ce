-- `tell` meets its contract: the first i are told; past the end nothing is stored. Assumes nothing.
use mathlib.Core.Path.{sym, ap, ◌∙◌}
use lib.ListN.{set}
use lib.Seq.{set_out}
use Rattle.colorgrad_c.proofs.plain.Stored.{tell_none, tell_next}
use Rattle.colorgrad_c.proofs.plain.telling.tell.Goals as goal
use Rattle.colorgrad_c.proofs.plain.telling.tell.Goals.{then-i-told, else-i-told}

pub loop-i-init : goal.loop-i-init
loop-i-init g c = tell_none c.args.items.now c.args.told.now

pub loop-i-preserved : goal.loop-i-preserved
loop-i-preserved g c =
    let told_by = tell_next c.args.items.now c.args.told.now c.loop-i.i c.index-items-i.result c.loop-i-test.true c.loop-i.invariant in
    elim c.if-i-told.branch [ then-i-told w ↦ told_by (w.told-is ∙ ap (set c.loop-i.told c.loop-i.i) c.index-items-i.is) | else-i-told w ↦ told_by (w.told-is ∙ sym (set_out c.loop-i.told c.loop-i.i _ w.if-i-told.false)) ]
