-- `verdict_told` meets its contract: each case of a verdict has its numbers. Assumes nothing.
use mathlib.Core.Path.{sym, ap}
use Rattle.colorgrad_c.specs.plain.Verdicts.{verdict_told}
use Rattle.colorgrad_c.proofs.plain.verdicts.verdict_told.Goals as goal

pub returns-in-BadStop : goal.returns-in-BadStop
returns-in-BadStop c = sym (ap verdict_told c.in-BadStop.is)

pub returns-in-TooFar : goal.returns-in-TooFar
returns-in-TooFar c = sym (ap verdict_told c.in-TooFar.is)
