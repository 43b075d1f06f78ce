-- `decimal::wide::raised` meets its contract. The loop's invariant: d is den doubled up times. Assumes nothing.
use mathlib.Core.Path.{sym, ◌∙◌}
use mathlib.Core.Bool.{true, false}
use Prim.Native.Nat.{◌^◌, ◌≤◌, ◌<◌}
use native.Mathlib.Nat.{lt_of_lt_of_le, le_of_eq, mul-one}
use native.Mathlib.Omega.{arith}
use lib.Pow.{pow-add}
use Rattle.decimal.specs.inner.Wide.{word, value_of}
use Rattle.decimal.proofs.WideTurns.{raised_few, raised_hi, times_again}
use Rattle.decimal.proofs.Words.{is_upto, twice_hi}
use Rattle.decimal.proofs.wide.raised.Goals as goal
use Rattle.decimal.proofs.wide.raised.Goals.{In-loop-num}

-- d is no more than num
no_more : (c : In-loop-num) → value_of c.loop-num.d ≤ value_of c.args.num
no_more c = is_upto c.loop-num.d c.args.num true (sym c.loop-num-test.true ∙ c.le.ensures)

few : (c : In-loop-num) → c.loop-num.up < 180
few c = let p = c.requires in raised_few _ _ _ _ c.loop-num.invariant.0 p.0 p.1.1 (no_more c)

below : (c : In-loop-num) → c.loop-num.d.hi < word
below c = raised_hi c.loop-num.d _ c.requires.1.1 (no_more c)

pub loop-num-init : goal.loop-num-init
loop-num-init c = (sym (mul-one _), (omega arith, omega arith))

pub times-d-requires : goal.times-d-requires
times-d-requires c = (c.loop-num.invariant.1.0, omega arith)

pub overflow_add-up : goal.overflow_add-up
overflow_add-up c = let h = few c.before in record { fits = omega arith }

pub loop-num-smaller : goal.loop-num-smaller
loop-num-smaller c = let h = few c.before in omega arith

pub loop-num-preserved : goal.loop-num-preserved
loop-num-preserved c =
    let l = c.loop-num in
    let h = few c.before in
    let g = below c.before in
    let t = twice_hi l.d c.times-d.result c.times-d.ensures in
    (times_again _ 2 (2 ^ l.up) _ _ _ (pow-add 2 l.up 1) l.invariant.0 c.times-d.ensures, (omega arith, omega arith))

pub returns : goal.returns
returns c =
    let l = c.loop-num in
    let h = is_upto l.d c.args.num false (sym c.loop-num-test.false ∙ c.le.ensures) in
    record { is = l.invariant.0; above = lt_of_lt_of_le h (le_of_eq l.invariant.0); room = l.invariant.1.0; few = l.invariant.1.1 }
