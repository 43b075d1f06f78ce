-- What private functions promise each other.
use Rattle.std.specs.Prelude.{ℕ, ◌+◌, ◌≡◌, cond, List, drop, Float}
use Rattle.std.specs.Float.Ieee.{eq}
use Rattle.refusals.specs.Refusals.{torn}
use Rattle.float.specs.F32.{f0, f1}
use Rattle.blend.specs.declared.Rgba.{Rgba}
use Rattle.stops.specs.Lent.{Change}
use Rattle.gradient.specs.declared.gimp.Segment.{Segment}
use Rattle.text.specs.Text.{lines}
use Rattle.segment.specs.declared.Rules.{Rules}
use Rattle.segment.specs.Store.{Store}
use Rattle.ggr.specs.declared.Answer.{Answer}
use Rattle.ggr.specs.declared.Answer.TheVariants.{Read, Refused}
use Rattle.ggr.specs.File.{FileRead, found, segment_lines, file_of, answer_of, store_left, room_in}

-- the answer is right, and so are the outputs where it is no refusal
pub record Filled (o : FileRead) (store : Change Store) (r : Answer) : Type 0 where
  pub answer : r ≡ answer_of o
  pub left : (gs : List Segment) → o ≡ found gs → store.exit ≡ store_left o store.entry

-- of the n segment lines of the text s from `from` on, and of the whole text
abbrev pub Fills : Rules → Rgba → Rgba → List ℕ → ℕ → ℕ → Change Store → Answer → Type 0
Fills rules fg bg s from n store r = Filled (segment_lines rules fg bg n 4 f0 (lines (drop from s))) store r

abbrev pub ReadsInto : Rules → Rgba → Rgba → List ℕ → Change Store → Answer → Type 0
ReadsInto rules fg bg s store r = Filled (file_of rules (room_in store.entry) fg bg s) store r

-- the answer after the last of n segments, which ends at `end`
abbrev pub closed_by : Float → ℕ → Answer
closed_by end n = cond (eq end f1) (Read n) (Refused torn (3 + n))
