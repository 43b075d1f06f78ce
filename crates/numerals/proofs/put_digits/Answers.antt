-- `put_digits` meets its contract. The loop's invariant: from the place i on the digits are there. Assumes nothing.
use native.Mathlib.Omega.{arith}
use Rattle.numerals.proofs.Put.{put_start, put_length, put_turn, put_end}
use Rattle.numerals.proofs.put_digits.Goals as goal

pub loop-i-init : goal.loop-i-init
loop-i-init c = put_start _ _ _ _

pub bounds-out-at : goal.bounds-out-at
bounds-out-at c =
    let a = c.args in
    let l = c.loop-i in
    omega (arith, put_length a.out.now a.at a.w a.x l.out l.i l.y c.requires l.invariant)

pub loop-i-preserved : goal.loop-i-preserved
loop-i-preserved c =
    let a = c.args in
    let l = c.loop-i in
    put_turn a.out.now a.at a.w a.x l.out l.i l.y c.requires l.invariant c.loop-i-test.true

pub shape_of-out : goal.shape_of-out
shape_of-out c =
    let a = c.args in
    let l = c.loop-i in
    put_length a.out.now a.at a.w a.x l.out l.i l.y c.requires l.invariant

pub returns : goal.returns
returns c =
    let a = c.args in
    let l = c.loop-i in
    put_end a.out.now a.at a.w a.x l.out l.i l.y c.requires l.invariant (omega arith)
