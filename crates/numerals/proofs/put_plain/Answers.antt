-- `put_plain` meets its contract. Assumes nothing.
use mathlib.Core.Path.{◌∙◌}
use native.Mathlib.Omega.{arith}
use lib.ListN.{length-set}
use Rattle.numerals.proofs.Tens.{ten_pos}
use Rattle.numerals.proofs.Put.{plain_is, plain_length}
use Rattle.numerals.proofs.put_plain.Goals as goal

pub nonzero_div-d : goal.nonzero_div-d
nonzero_div-d c = omega (arith, ten_pos c.args.k)

pub put_digits-requires-2 : goal.put_digits-requires-2
put_digits-requires-2 c =
    let l = c.put_digits.auto.out in
    simp length-set (omega arith)

pub shape_of-out : goal.shape_of-out
shape_of-out c = c.put_digits-2.auto.out ∙ simp length-set c.put_digits.auto.out

pub returns : goal.returns
returns c =
    let a = c.args in
    let w = c.width-w in
    let p1 = c.put_digits in
    let p2 = c.put_digits-2 in (
      omega (arith, w.ensures, plain_length a.d a.k),
      plain_is a.out.now p1.new.out p2.new.out a.at w.result a.k a.d a.ten p1.ensures p2.ensures (omega arith) w.ensures,
    )
