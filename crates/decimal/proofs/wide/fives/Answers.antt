-- `decimal::wide::fives` meets its contract. The loop's invariant: w is d times 5 for each turn. Assumes nothing.
use Prim.Native.Nat.{◌^◌}
use native.Mathlib.Omega.{arith}
use lib.Pow.{pow-add}
use Rattle.decimal.proofs.WideTurns.{fives_room, times_again}
use Rattle.decimal.proofs.Words.{roomy_hi}
use Rattle.decimal.proofs.wide.fives.Goals as goal

pub times-w-requires : goal.times-w-requires
times-w-requires c =
    let l = c.loop in
    let h = roomy_hi l.w _ l.invariant (fives_room c.args.d l.counter c.args.n (omega arith) c.requires) in
    (omega arith, omega arith)

pub loop-preserved : goal.loop-preserved
loop-preserved c = times_again _ 5 (5 ^ c.loop.counter) _ _ _ (pow-add 5 c.loop.counter 1) c.loop.invariant c.times-w.ensures
