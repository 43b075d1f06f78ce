-- `sqrt::half_root::cutoff` meets its contract, by the laws of the cutoff: the test fails at +0 where t is not below zero. Assumes nothing.
use native.Mathlib.Omega.{arith}
use mathlib.Core.Path.{sym, subst}
use Prim.Native.Nat.{ℕ, ◌≤◌}
use native.Mathlib.Numerals.{add-one}
use lib.Dec.{T}
use lib.Ieee.{nan_bits}
use Rattle.sqrt.specs.Cutoff.{above}
use Rattle.float.proofs.Patterns.{number_pattern}
use Rattle.float.proofs.PatternOrder.{at}
use Rattle.sqrt.proofs.Threshold.{it_failed, above-zero_is, cutoff_below_zero, cutoff_of_last}
use Rattle.sqrt.proofs.half_root.cutoff.Goals as goal

pub float_from_bits-result : goal.float_from_bits-result
unfolding nan_bits
float_from_bits-result c = tt

pub returns-then-t : goal.returns-then-t
returns-then-t c = cutoff_below_zero c.args.t (subst T (sym c.if-t.true) tt)

pub down_to_fail-requires : goal.down_to_fail-requires
down_to_fail-requires c = (c.start.ensures, it_failed (sym (above-zero_is c.args.t)) c.if-t.false)

pub float_from_bits-result-2 : goal.float_from_bits-result-2
float_from_bits-result-2 c = let h = c.up_to_last-b.ensures.0 in number_pattern c.up_to_last-b.result (omega arith)

pub returns : goal.returns
returns c =
    let t = c.args.t in
    let b = c.up_to_last-b.result in
    let u = c.up_to_last-b.ensures in
    cutoff_of_last t b u.0 u.1 (subst (λ (n : ℕ). n ≤ 2139095040 → T (above t (at n))) (add-one b) u.2)
