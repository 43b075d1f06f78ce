-- `decimal::unsigned` meets its contract: by where the two runs of digits end. Assumes nothing.
use mathlib.Core.Path.{sym, ◌∙◌}
use Prim.Native.Nat.{◌+◌, ◌<◌}
use native.Mathlib.Nat.{lt_of_lt_of_le}
use native.Mathlib.Omega.{arith}
use lib.ListN.{length}
use Rattle.decimal.proofs.Parts.{too_long}
use Rattle.decimal.proofs.Place.{read_whole, read_other, read_stopped, read_both, read_fives}
use Rattle.decimal.proofs.Scale.{ten_le}
use borrow.Author.Rules.{rules}
use Rattle.decimal.proofs.unsigned.Goals as goal
use Rattle.decimal.proofs.unsigned.Lts
use Rattle.decimal.proofs.unsigned.Tie
use Rattle.decimal.proofs.unsigned.Reads

abbrev At-After-shared_slice_known-2-1 : Type 0
At-After-shared_slice_known-2-1 = Lts.After-shared_slice_known2 Tie.the-claims Reads.Pre Reads.Post

-- a run that does not end with the token ends before it
there : (c : At-After-shared_slice_known-2-1) → c.digits-whole.result.end < length c.args.s.now
there c = let e = c.digits-whole.ensures in omega arith

pub returns-then-n : goal.returns-then-n
returns-then-n c = sym (too_long _ _ c.if-n.true)

pub returns-then-at-n : goal.returns-then-at-n
returns-then-at-n c = c.number.ensures ∙ sym (read_whole _ _ _ _ _ c.digits-whole.ensures c.if-at-n.true)

pub returns-then-s-at-ne46 : goal.returns-then-s-at-ne46
returns-then-s-at-ne46 c =
    let w = c.digits-whole in
    sym (read_other _ _ _ _ w.result.end w.ensures (there c.before.before) c.if-s-at-ne46.true)

pub digits-all-requires : goal.digits-all-requires
digits-all-requires c =
    let w = c.digits-whole in
    let l = there c.before.before in
    (omega arith, (omega arith, lt_of_lt_of_le w.ensures.small (ten_le w.result.end (w.result.end + 1) (omega arith))))

pub returns-then-all-n : goal.returns-then-all-n
returns-then-all-n c =
    let w = c.digits-whole in
    let f = c.digits-all in
    sym (read_stopped _ _ _ _ _ w.ensures _ _ _ f.ensures (there c.before.before.before.before.before) c.if-s-at-ne46.false c.if-all-n.true)

pub number-requires-2 : goal.number-requires-2
number-requires-2 c =
    (search rules, read_fives _ _ _ _ _ _ c.digits-all.ensures c.if-all-n.false)

pub returns : goal.returns
returns c =
    let w = c.digits-whole in
    let f = c.digits-all in
    c.number-2.ensures ∙ sym (read_both _ _ _ _ _ w.ensures _ _ _ f.ensures (there c.before.before.before.before.before.before) c.if-s-at-ne46.false c.if-all-n.false)
