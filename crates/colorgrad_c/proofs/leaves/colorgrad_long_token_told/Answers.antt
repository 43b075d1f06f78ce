-- `colorgrad_long_token_told` meets its contract: the long token that is read, told. Assumes nothing.
use mathlib.Core.Path.{ap, ◌∙◌}
use Rattle.colorgrad_c.proofs.plain.Stored.{tells_same}
use Rattle.colorgrad_c.specs.Leaves.{is_number, value_told}
use Rattle.colorgrad_c.proofs.leaves.colorgrad_long_token_told.Goals as goal

pub returns : goal.returns
returns c =
    let e = c.read_long.ensures in
    record {
      value = c.tell_token.ensures.value ∙ ap is_number e;
      value_value = tells_same _ c.tell_token.ensures.value_value (ap value_told e);
    }
