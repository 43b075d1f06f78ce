-- `put_field` meets its contract: a tab, then the digits. Assumes nothing.
use native.Mathlib.Omega.{arith}
use Rattle.writing.proofs.Texts.{field_put}
use Rattle.writing.proofs.put_field.Goals as goal

pub returns : goal.returns
returns c = field_put c.args.x c.to_bits.ensures c.put-next.ensures c.put_hex.ensures (omega arith)
