-- `decimal::long::power_at` meets its contract: the digits passed so far make the power, or both are huge. Assumes nothing.
use mathlib.Core.Path.{sym, subst}
use native.Mathlib.Omega.{arith}
use Rattle.decimal.specs.inner.Counted.{PowerTo}
use Rattle.decimal.proofs.LongPlace.{stops_at, stops_over}
use Rattle.decimal.proofs.LongRuns.{powering_none, powering_next, powering_done}
use Rattle.decimal.proofs.long.power_at.Goals as goal

pub loop-i-init : goal.loop-i-init
loop-i-init c = powering_none _ _ c.requires

pub returns-then-not-is_ascii_digit : goal.returns-then-not-is_ascii_digit
returns-then-not-is_ascii_digit c =
    let i = c.loop-i.invariant in
    powering_done _ _ _ _ i (stops_at _ _ _ _ i.run c.loop-i-test.true (sym c.if-not-is_ascii_digit.ensures.value))

pub ten_times-value-requires : goal.ten_times-value-requires
ten_times-value-requires c = c.if-not-is_ascii_digit.ensures.cases

pub loop-i-preserved : goal.loop-i-preserved
loop-i-preserved c =
    let b = c.if-not-is_ascii_digit.ensures.cases in
    powering_next _ _ _ _ c.loop-i.invariant _ c.loop-i-test.true b.0 b.1 c.ten_times-value.ensures

pub returns : goal.returns
returns c =
    let i = c.loop-i.invariant in
    subst (PowerTo c.args.s.now c.args.from c.loop-i.value) (omega arith) (powering_done _ _ _ _ i (stops_over _ _ _ _ i.run c.loop-i-test.false))
