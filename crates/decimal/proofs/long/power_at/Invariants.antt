-- `decimal::long::power_at` meets its contract: the digits passed so far make the power, or both are huge. Assumes nothing.
use Rattle.decimal.proofs.LongRuns.{Powering}
use Rattle.decimal.proofs.long.power_at.Given as goal

abbrev pub invariant-loop-i : goal.invariant-loop-i
invariant-loop-i l = Powering l.s l.from l.value l.i
