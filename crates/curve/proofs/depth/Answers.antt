-- `depth` meets its contract: a pattern below that of 1 has a field of at most 126, and a lifted subnormal one of at most 24. Assumes nothing.
use mathlib.Core.Path.{sym, ◌∙◌, subst}
use mathlib.Core.Bool.{not}
use native.Mathlib.Omega.{arith}
use lib.Dec.{T}
use Rattle.float.specs.F32.{◌⊗◌}
use Rattle.float.proofs.UnitsOrder.{plain_number}
use Rattle.curve.specs.Depth.{lift}
use Rattle.curve.proofs.Inside.{Inside, inside, lifted_plain, lifted_field}
use Rattle.curve.proofs.Deeper.{depth_small, depth_other}
use Rattle.curve.proofs.depth.Goals as goal
use Rattle.curve.proofs.depth.Lts
use Rattle.curve.proofs.depth.Tie
use Rattle.curve.proofs.depth.Reads

abbrev At-Start : Type 0
At-Start = Lts.Start Tie.the-claims Reads.Pre Reads.Post

held : (c : At-Start) → Inside c.args.x
held c = inside c.args.x (subst T (sym c.well_formed.0.1) tt) c.requires.0 c.requires.1

pub float_to_bits-b : goal.float_to_bits-b
float_to_bits-b c = subst (λ b. T (not b)) (sym (plain_number c.args.x (held c).clear)) tt

pub float_to_bits-x : goal.float_to_bits-x
float_to_bits-x c = let x = c.args.x in subst (λ b. T (not b)) (sym (plain_number (x ⊗ lift) (lifted_plain x (held c.before) c.if-b-lt-FIELD.true))) tt

pub level-requires : goal.level-requires
level-requires c = let l = lifted_field c.args.x (held c.before) c.if-b-lt-FIELD.true in omega arith

pub returns-then-b-lt-FIELD : goal.returns-then-b-lt-FIELD
returns-then-b-lt-FIELD c = c.level.ensures ∙ depth_small c.args.x c.if-b-lt-FIELD.true

pub level-requires-else-b-lt-FIELD : goal.level-requires-else-b-lt-FIELD
level-requires-else-b-lt-FIELD c = let l = (held c.before).high in omega arith

pub returns-else-b-lt-FIELD : goal.returns-else-b-lt-FIELD
returns-else-b-lt-FIELD c = c.level-else-b-lt-FIELD.ensures ∙ depth_other c.args.x c.if-b-lt-FIELD.false
