-- `step_told` meets its contract: each case of a place has its numbers. Assumes nothing.
use mathlib.Core.Path.{sym, ap}
use mathlib.Core.List.{◌∷◌}
use Rattle.next_stop.specs.declared.ListPlace.{ListPlace}
use Rattle.colorgrad_c.specs.plain.Steps.{place_told}
use Rattle.colorgrad_c.proofs.plain.Stepping.{step_after}
use Rattle.colorgrad_c.proofs.plain.steps.step_told.Goals as goal

pub returns-in-Start : goal.returns-in-Start
returns-in-Start c = sym (ap (λ (p : ListPlace). c.args.has ∷ c.args.evaluations ∷ place_told p) c.in-Start.is)

pub returns-in-After : goal.returns-in-After
returns-in-After c = step_after _ _ c.in-After.is c.narrow.ensures c.narrow-in-After.ensures

pub returns-in-Ended : goal.returns-in-Ended
returns-in-Ended c = sym (ap (λ (p : ListPlace). c.args.has ∷ c.args.evaluations ∷ place_told p) c.in-Ended.is)
