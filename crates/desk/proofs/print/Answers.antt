-- `print` meets its contract: no answer is longer than the output. Assumes nothing.
use borrow.Author.Rules.{rules}
use Rattle.desk.proofs.Fits.{all_printed}
use Rattle.desk.proofs.print.Goals as goal

pub returns : goal.returns
returns c = all_printed c.args.input.now (search rules) c.answer.ensures
