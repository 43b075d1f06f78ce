-- `zero_from` meets its contract: the front of the part is zero, and the rest as it was. Assumes nothing.
use Rattle.std.proofs.Common.{◌≡◌, ◌-◌, ◌∙◌, length, replicate, take, drop, arith, length-take, length-drop}
use lib.ListN.{length-replicate}
use Rattle.float.specs.F32.{f0}
use Rattle.slices.proofs.Stores.{part_sets, fill_more, fill_all}
use Rattle.slices.proofs.zero_from.Goals as goal

pub loop-place-preserved : goal.loop-place-preserved
loop-place-preserved c = fill_more f0 _ _ _ (omega arith) c.loop-place.invariant

pub returns-after-loop-place : goal.returns-after-loop-place
returns-after-loop-place c =
    let l = c.args.out.now in
    let rest = length c.args.out.now - c.args.from in
    let long : length (take rest (drop c.args.from l)) ≡ rest = simp (length-take, length-drop) (omega arith) in
    let zeros : c.loop-place.place-items ≡ replicate rest f0 = fill_all f0 _ (take rest (drop c.args.from l)) _ (omega arith) c.loop-place.invariant ∙ rw long in
    rw zeros (part_sets l (replicate rest f0) c.args.from (length l) (omega arith) (omega arith) (length-replicate rest f0))
