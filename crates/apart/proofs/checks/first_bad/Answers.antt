-- `first_bad` meets its contract: the first failing of the depths that are left is that of all. Assumes nothing.
use mathlib.Core.Path.{sym, ◌∙◌}
use native.Mathlib.Omega.{arith}
use Rattle.float.proofs.Flags.{failed, passed}
use Rattle.judge.proofs.Failing.{fails_here, goes_on, none_left}
use Rattle.apart.proofs.Checking.{begun}
use Rattle.apart.proofs.checks.first_bad.Goals as goal

pub loop-i-init : goal.loop-i-init
loop-i-init c = begun _ _ _

pub returns-then-not-is_good : goal.returns-then-not-is_good
returns-then-not-is_good c =
    sym (fails_here _ _ _ c.loop-i-test.true (failed c.if-not-is_good.true c.is_good.ensures)) ∙ c.loop-i.invariant

pub loop-i-preserved : goal.loop-i-preserved
loop-i-preserved c =
    goes_on _ _ _ c.loop-i-test.true (passed c.if-not-is_good.false c.is_good.ensures) ∙ c.loop-i.invariant

pub returns : goal.returns
returns c = omega arith ∙ sym (none_left _ _ _ c.loop-i-test.false) ∙ c.loop-i.invariant
