-- A sample record as one value, and how a contract reads it from what is lent.
use Rattle.std.specs.Prelude.{List, ℕ, Float}
use Rattle.stops.specs.Lent.{Change, change, Lent, LentMut}

-- 36 rows of 128 numbers, 36 counts, and 3 words that say what it was sampled with
pub record Held : Type 0 where
  pub rows : List Float
  pub counts : List ℕ
  pub marks : List ℕ

-- of plain lists
abbrev pub held_of : List Float → List ℕ → List ℕ → Held
held_of rows counts marks = record { rows = rows; counts = counts; marks = marks }

-- in an `ensures`: where the record is only read, and where it is written
abbrev pub shared_held : Lent Float → Lent ℕ → Lent ℕ → Change Held
shared_held rows counts marks = change (held_of rows.entry.now counts.entry.now marks.entry.now) (held_of rows.exit.now counts.exit.now marks.exit.now)

abbrev pub lent_held : LentMut Float → LentMut ℕ → LentMut ℕ → Change Held
lent_held rows counts marks = change (held_of rows.entry.now counts.entry.now marks.entry.now) (held_of rows.exit.now counts.exit.now marks.exit.now)

-- ---- the rows and counts alone, which the functions within fill cell by cell
pub record Body : Type 0 where
  pub rows : List Float
  pub counts : List ℕ

abbrev pub body_of : List Float → List ℕ → Body
body_of rows counts = record { rows = rows; counts = counts }

abbrev pub lent_body : LentMut Float → LentMut ℕ → Change Body
lent_body rows counts = change (body_of rows.entry.now counts.entry.now) (body_of rows.exit.now counts.exit.now)
