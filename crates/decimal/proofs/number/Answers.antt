-- `decimal::number` meets its contract: by how many digits there are. Assumes nothing.
use mathlib.Core.Path.{sym, ap, ◌∙◌}
use native.Mathlib.Omega.{arith}
use Rattle.decimal.specs.declared.Token.TheVariants.{Number}
use Rattle.decimal.proofs.Parts.{number_none, number_long, number_is}
use Rattle.decimal.proofs.number.Goals as goal

pub returns-then-n-eq0 : goal.returns-then-n-eq0
returns-then-n-eq0 c = sym (number_none _ _ _ _ c.if-n-eq0.true)

pub returns-then-n-gt-MOST_DIGITS : goal.returns-then-n-gt-MOST_DIGITS
returns-then-n-gt-MOST_DIGITS c = sym (number_long _ _ _ _ c.if-n-gt-MOST_DIGITS.true)

pub returns : goal.returns
returns c = ap Number c.nearest.ensures ∙ sym (number_is _ _ _ _ (omega arith) (omega arith))
