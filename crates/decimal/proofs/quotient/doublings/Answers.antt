-- `decimal::quotient::doublings` meets its contract: a number with z leading zeros has 64 - z digits. Assumes nothing.
use Rattle.decimal.proofs.Scale.{reaches, has_reached}
use Rattle.decimal.proofs.quotient.doublings.Goals as goal

pub returns-then-zeros-lt24 : goal.returns-then-zeros-lt24
returns-then-zeros-lt24 c = has_reached _ c.requires.0 c.requires.1 c.if-zeros-lt24.true

pub returns : goal.returns
returns c = reaches _ c.requires.0 c.requires.1 c.if-zeros-lt24.false
