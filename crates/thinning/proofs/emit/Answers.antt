-- `emit` meets its contract: the refusal, or the stop written. Assumes nothing.
use mathlib.Core.Path.{sym, ◌∙◌}
use native.Mathlib.Omega.{arith}
use Rattle.thinning.specs.Walk.{run}
use Rattle.thinning.proofs.Stops.{has_room}
use Rattle.thinning.proofs.Walks.{refused_run, emitted_run}
use Rattle.thinning.proofs.emit.Goals as goal

pub returns-then-refusal-ne0 : goal.returns-then-refusal-ne0
returns-then-refusal-ne0 c =
    let a = c.args in
    let s = c.stop_refusal-refusal in
    refused_run a.room (run a.s a.places.now a.colours.now) a.p s.result s.ensures c.if-refusal-ne0.true

pub returns : goal.returns
returns c =
    let a = c.args in
    emitted_run a.room (run a.s a.places.now a.colours.now) a.p _ _ (sym c.stop_refusal-refusal.ensures ∙ c.if-refusal-ne0.false) c.put.ensures c.put_stop.ensures

pub overflow_add-result : goal.overflow_add-result
overflow_add-result c = omega (arith, has_room c.args.room c.args.s.stops _ _ _ (sym c.stop_refusal-refusal.ensures ∙ c.if-refusal-ne0.false))
