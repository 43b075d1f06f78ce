-- The outputs of a list as one value, and how a contract reads them from what is lent.
use Rattle.std.specs.Prelude.{List, Float}
use Rattle.stops.specs.Lent.{Change, change, LentMut}

pub record Output : Type 0 where
  pub positions : List Float
  pub channels : List Float

-- of plain lists
abbrev pub output_of : List Float → List Float → Output
output_of ps cs = record { positions = ps; channels = cs }

-- in an `ensures`
abbrev pub lent_output : LentMut Float → LentMut Float → Change Output
lent_output ps cs = change (output_of ps.entry.now cs.entry.now) (output_of ps.exit.now cs.exit.now)
