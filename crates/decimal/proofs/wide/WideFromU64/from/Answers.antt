-- `decimal::wide::WideFromU64::from` meets its contract: a word of 64 binary digits in two of 60. Assumes nothing.
use Rattle.decimal.proofs.WideTurns.{one_word}
use Rattle.decimal.proofs.wide.WideFromU64.from.Goals as goal

pub returns : goal.returns
returns c = one_word c.args.d
