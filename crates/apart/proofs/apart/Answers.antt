-- `apart` meets its contract: the checks, then the room, then the bytes. Assumes nothing.
use mathlib.Core.Path.{sym, ◌∙◌}
use Rattle.apart.proofs.Answering.{call_refused, call_narrow, call_told}
use Rattle.apart.proofs.apart.Goals as goal

pub returns-then-faults-depths : goal.returns-then-faults-depths
returns-then-faults-depths c =
    call_narrow _ _ _ _ _ _ (sym c.check_lent.ensures ∙ c.in-Fine.is) c.if-faults-depths.true c.zero_bytes.ensures

pub returns-in-Refused : goal.returns-in-Refused
returns-in-Refused c = call_refused _ _ _ _ _ _ _ (sym c.check_lent.ensures ∙ c.in-Refused.is)

pub returns-else-faults-depths : goal.returns-else-faults-depths
returns-else-faults-depths c =
    call_told _ _ _ _ _ _ (sym c.check_lent.ensures ∙ c.in-Fine.is) c.if-faults-depths.false c.new-sampler.ensures c.tell-tally.ensures
