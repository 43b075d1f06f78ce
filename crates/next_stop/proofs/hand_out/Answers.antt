-- `hand_out` meets its contract: the stop, or its refusal. Assumes nothing.
use Rattle.next_stop.proofs.Handing.{hands_refusal, hands_stop}
use Rattle.next_stop.proofs.hand_out.Goals as goal

pub returns-then-refusal-ne0 : goal.returns-then-refusal-ne0
returns-then-refusal-ne0 c = hands_refusal _ _ _ _ c.stop_refusal-refusal.ensures c.if-refusal-ne0.true

pub returns : goal.returns
returns c =
    hands_stop _ _ _ _ c.stop_refusal-refusal.ensures c.if-refusal-ne0.false c.place_of.ensures
