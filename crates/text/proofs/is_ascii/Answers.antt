-- `is_ascii` meets its contract: the slice tells it. Assumes nothing.
use Rattle.text.proofs.Bytes.{ascii_told}
use Rattle.text.proofs.is_ascii.Goals as goal

pub returns : goal.returns
returns c = ascii_told c.args.s.now c.is_ascii.result c.is_ascii.ensures.cases
