-- `colorgrad_sharp_told` meets its contract: the answer of `build`, told, and what that answer leaves. Assumes nothing.
use Rattle.colorgrad_c.proofs.plain.Coding.{paired}
use Rattle.colorgrad_c.proofs.ramps.colorgrad_sharp_told.Goals as goal

pub returns : goal.returns
returns c =
    record { answer = _; promised = c.build-built.ensures; shown = paired c.tell_built.ensures.value c.tell_built.ensures.told_value }
