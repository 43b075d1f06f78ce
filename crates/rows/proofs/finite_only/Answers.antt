-- `finite_only` meets its contract: a number that is finite or not, and none. Assumes nothing.
use mathlib.Core.Bool.{true, false}
use mathlib.Core.Path.{◌≡◌, sym, ◌∙◌}
use lib.Ieee.{Float}
use lib.Ieee.Scale.{finite}
use Rattle.decimal.specs.declared.Token.{Token}
use Rattle.decimal.specs.declared.Token.TheVariants.{Number, NoNumber}
use Rattle.rows.specs.Rows.{finite_only}
use Rattle.rows.proofs.finite_only.Goals as goal

kept : (t : Token) (x : Float) → t ≡ Number x → finite x ≡ true → Number x ≡ finite_only t
unfolding finite_only
kept t x is fine = rw (is, fine)

dropped : (t : Token) (x : Float) → t ≡ Number x → finite x ≡ false → NoNumber ≡ finite_only t
unfolding finite_only
dropped t x is wild = rw (is, wild)

pub returns-then-is_finite : goal.returns-then-is_finite
returns-then-is_finite c = kept _ _ c.in-Number.is (sym c.is_finite.ensures ∙ c.if-is_finite.true)

pub returns-in-NoNumber : goal.returns-in-NoNumber
unfolding finite_only
returns-in-NoNumber c = rw c.in-NoNumber.is

pub returns-else-is_finite : goal.returns-else-is_finite
returns-else-is_finite c = dropped _ _ c.in-Number.is (sym c.is_finite.ensures ∙ c.if-is_finite.false)
