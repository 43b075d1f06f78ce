-- `tell_handed` meets its contract: the numbers, the stop, and the refusal. Assumes nothing.
use Rattle.colorgrad_c.proofs.plain.Stored.{tells_same}
use Rattle.colorgrad_c.proofs.plain.Stepping.{step_is}
use Rattle.colorgrad_c.proofs.plain.steps.tell_handed.Goals as goal

pub returns : goal.returns
returns c = record {
  value = c.told_number.ensures;
  told_value = tells_same _ c.tell.ensures (step_is c.args.handed c.has_stop.ensures c.step_told-numbers.ensures);
  stop_value = tells_same _ c.tell-2.ensures c.stop_told.ensures;
}
