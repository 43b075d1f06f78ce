-- `write` meets its contract: by the sign. Assumes nothing.
use mathlib.Core.Path.{refl}
use native.Mathlib.Omega.{arith}
use Rattle.numerals.proofs.Put.{text_none, text_as, text_put}
use Rattle.numerals.proofs.Signs.{nan_text, no_nan, below-zero, neg-neg, above_zero, plus_zero, minus_zero}
use Rattle.numerals.proofs.write.Goals as goal

pub returns-then-x : goal.returns-then-x
returns-then-x c = text_none _ _ _ (nan_text c.args.x c.if-x.true) c.none.ensures.0 c.none.ensures.1

pub sized-requires : goal.sized-requires
sized-requires c = below-zero c.args.x c.if-x-2.true

pub returns-then-x-2 : goal.returns-then-x-2
returns-then-x-2 c = text_as _ _ _ _ (neg-neg c.args.x) c.sized.ensures

pub sized-requires-then-x-3 : goal.sized-requires-then-x-3
sized-requires-then-x-3 c = above_zero c.args.x c.if-x-3.true

pub float_to_bits-x : goal.float_to_bits-x
float_to_bits-x c = no_nan c.args.x c.if-x.false

pub returns-then-x-eq0 : goal.returns-then-x-eq0
returns-then-x-eq0 c = text_as _ _ _ _ (plus_zero c.args.x c.if-x.false c.if-x-2.false c.if-x-3.false c.well_formed.0.1 c.if-x-eq0.true) (text_put _ _ _ (omega arith) refl refl)

pub returns : goal.returns
returns c = text_as _ _ _ _ (minus_zero c.args.x c.if-x.false c.if-x-2.false c.if-x-3.false c.well_formed.0.1 c.if-x-eq0.false) (text_put _ _ _ (omega arith) refl refl)
