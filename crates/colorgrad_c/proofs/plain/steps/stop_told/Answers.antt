-- `stop_told` meets its contract: each case of what is told has its numbers. Assumes nothing.
use mathlib.Core.Path.{sym, ap}
use mathlib.Core.Logic.{inl, inr}
use Rattle.colorgrad_c.specs.plain.Steps.{stop_told}
use Rattle.colorgrad_c.proofs.plain.steps.stop_told.Goals as goal

pub returns-in-Stop : goal.returns-in-Stop
returns-in-Stop c = sym (ap stop_told c.in-Stop.is)

pub returns-in-Ended : goal.returns-in-Ended
returns-in-Ended c = elim c.in-Ended.is [ inl e ↦ sym (ap stop_told e) | inr e ↦ sym (ap stop_told e.1) ]
