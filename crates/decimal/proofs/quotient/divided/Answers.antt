-- `decimal::quotient::divided` meets its contract. The loop's invariant: num * 2 ^ down is m times den and the rest. Assumes nothing.
use mathlib.Core.Path.{sym, ◌∙◌}
use Prim.Native.Nat.{◌<◌}
use native.Mathlib.Nat.{mul-one, div-add-mod', mod-lt, div-lt_iff_lt-mul}
use native.Mathlib.Omega.{arith}
use Rattle.decimal.proofs.Division.{flat, over, down_few}
use Rattle.decimal.proofs.quotient.divided.Goals as goal
use Rattle.decimal.proofs.quotient.divided.Goals.{then-den-rest, else-den-rest}
use Rattle.decimal.proofs.quotient.divided.Lts
use Rattle.decimal.proofs.quotient.divided.Reads

abbrev At-In-loop-m : Type 0
At-In-loop-m = Lts.In-loop Reads.Pre Reads.Post goal.the-invariant-loop-m goal.the-decreases-loop-m

-- at a turn fewer than 23 digits were taken
taken_few : (c : At-In-loop-m) → c.loop-m.down < 23
taken_few c =
    let a = c.args in
    let l = c.loop-m in
    down_few a.num a.den l.m l.rest l.down (omega arith) l.invariant.0 (omega arith) (omega arith) (omega arith)

pub loop-m-init : goal.loop-m-init
loop-m-init c = (mul-one _ ∙ sym (div-add-mod' _ _), (mod-lt _ (omega arith), ((div-lt_iff_lt-mul {k = c.args.den} (omega arith)).1 (omega arith), omega arith)))

pub loop-m-smaller : goal.loop-m-smaller
loop-m-smaller c = omega (arith, taken_few c.before)

pub loop-m-preserved : goal.loop-m-preserved
loop-m-preserved c =
    let a = c.args in
    let l = c.loop-m in
    let t = taken_few c.before in
    elim c.if-den-rest.branch [
      | then-den-rest w ↦ (cc (over a.num a.den l.m l.rest l.down l.invariant.0 w.if-den-rest.true), (omega arith, (omega arith, omega arith)))
      | else-den-rest w ↦ (cc (flat a.num a.den l.m l.rest l.down l.invariant.0), (omega arith, (omega arith, omega arith)))
    ]

pub returns : goal.returns
returns c = record { long = c.loop-m.invariant.0; less = omega arith; lo = omega arith; hi = omega arith; few = omega arith }
