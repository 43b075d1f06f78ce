-- `tell_verdict` meets its contract: the numbers, the point, and the refusal. Assumes nothing.
use mathlib.Core.Path.{ap}
use mathlib.Core.List.{[], ◌∷◌}
use lib.Ieee.{Float}
use Rattle.colorgrad_c.proofs.plain.Stored.{tells_same}
use Rattle.colorgrad_c.proofs.plain.verdicts.tell_verdict.Goals as goal

pub returns : goal.returns
returns c = record {
  value = c.verdict_number.ensures;
  told_value = tells_same _ c.tell.ensures c.verdict_told.ensures;
  t_value = tells_same _ c.tell-2.ensures (ap (λ (x : Float). x ∷ []) c.point_of.ensures);
}
