-- `check_list` meets its contract: check by check. Assumes nothing.
use native.Mathlib.Omega.{arith}
use Rattle.float.proofs.Flags.{failed, passed}
use Rattle.judge.proofs.Listing.{size}
use Rattle.judge.proofs.Shaping.{wrong_length, bad_stop, wrong_first, wrong_last, nothing_wrong}
use Rattle.judge.proofs.check_list.Goals as goal

pub returns-then-not-is_sized : goal.returns-then-not-is_sized
returns-then-not-is_sized c = wrong_length _ _ _ _ (failed c.if-not-is_sized.true c.is_sized.ensures)

pub returns-then-stop-n : goal.returns-then-stop-n
returns-then-stop-n c =
    bad_stop _ _ _ _ (passed c.if-not-is_sized.false c.is_sized.ensures) _ c.first_bad-stop.ensures c.if-stop-n.true

pub bounds-places-0 : goal.bounds-places-0
bounds-places-0 c =
    omega (arith, (size _ _ (passed c.if-not-is_sized.false c.is_sized.ensures)).least)

pub returns-then-places-min : goal.returns-then-places-min
returns-then-places-min c =
    wrong_first _ _ _ _ (passed c.if-not-is_sized.false c.is_sized.ensures) _ c.first_bad-stop.ensures c.if-stop-n.false c.if-places-min.true

pub overflow_sub-n : goal.overflow_sub-n
overflow_sub-n c =
    omega (arith, (size _ _ (passed c.if-not-is_sized.false c.is_sized.ensures)).least)

pub bounds-places-n : goal.bounds-places-n
bounds-places-n c =
    omega (arith, (size _ _ (passed c.if-not-is_sized.false c.is_sized.ensures)).least)

pub returns-then-places-n : goal.returns-then-places-n
returns-then-places-n c =
    wrong_last _ _ _ _ (passed c.if-not-is_sized.false c.is_sized.ensures) _ c.first_bad-stop.ensures c.if-stop-n.false c.if-places-min.false c.if-places-n.true

pub returns : goal.returns
returns c =
    nothing_wrong _ _ _ _ (passed c.if-not-is_sized.false c.is_sized.ensures) _ c.first_bad-stop.ensures c.if-stop-n.false c.if-places-min.false c.if-places-n.false
