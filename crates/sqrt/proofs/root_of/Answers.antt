-- `sqrt::root_of` meets its contract: from the whole number nearest to the root of n, `proofs/Shift.antt` leads to the pattern. Assumes nothing.
use native.Mathlib.Omega.{arith}
use Prim.Native.Nat.{◌+◌, ◌*◌}
use Rattle.float.proofs.Patterns.{number_pattern}
use Rattle.sqrt.proofs.Shift.{Found, found}
use Rattle.sqrt.proofs.root_of.Goals as goal
use Rattle.sqrt.proofs.root_of.Lts
use Rattle.sqrt.proofs.root_of.Tie
use Rattle.sqrt.proofs.root_of.Reads

abbrev At-After-nearest_root-q : Type 0
At-After-nearest_root-q = Lts.After-nearest_root Tie.the-claims Reads.Pre Reads.Post

done : (c : At-After-nearest_root-q) → Found c.args.n c.args.k c.nearest_root-q.result
done c = found c.args.n c.args.k c.nearest_root-q.result c.requires c.nearest_root-q.ensures

pub overflow_cast-q : goal.overflow_cast-q
overflow_cast-q c = let h = (done c).high in omega arith

pub overflow_add-result : goal.overflow_add-result
overflow_add-result c = let h = (done c).high in let l = c.requires.few in omega arith

pub float_from_bits-result : goal.float_from_bits-result
float_from_bits-result c = let h = (done c).high in let l = c.requires.few in number_pattern (c.args.k * 8388608 + c.nearest_root-q.result) (omega arith)

pub returns : goal.returns
returns c = (done c).is
