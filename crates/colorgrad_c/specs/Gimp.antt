-- What the reader answers and tells, and what it leaves.
use Rattle.std.specs.Prelude.{ℕ, ◌≡◌, List, [], ◌∷◌}
use Rattle.blend.specs.declared.Rgba.{Rgba}
use Rattle.stops.specs.Lent.{Change}
use Rattle.segment.specs.declared.Rules.{Rules}
use Rattle.segment.specs.Store.{Store}
use Rattle.ggr.specs.File.{FileRead, file_of, room_in, number_in, line_in, segments_in, store_left}
use Rattle.colorgrad_c.specs.plain.Telling.{telling, Reply}

-- the line of a refusal, and how many segments were read
abbrev pub read_told : FileRead → List ℕ
read_told o = line_in o ∷ segments_in o ∷ []

-- of what a file holds, and of a text that is read by these rules
pub record ShowsFile (o : FileRead) (store : Change Store) (r : Reply (List ℕ)) : Type 0 where
  pub number : r.number ≡ number_in o
  pub told : r.told.exit ≡ telling (read_told o) r.told.entry
  pub left : store.exit ≡ store_left o store.entry

abbrev pub ShowsRead : Rules → Rgba → Rgba → List ℕ → Change Store → Reply (List ℕ) → Type 0
ShowsRead rules fg bg s store = ShowsFile (file_of rules (room_in store.entry) fg bg s) store
