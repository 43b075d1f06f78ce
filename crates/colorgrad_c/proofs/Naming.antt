-- An answer of the reader told. Assumes nothing.
use mathlib.Core.Path.{◌≡◌, ap₂, ◌∙◌}
use mathlib.Core.List.{List, [], ◌∷◌}
use Prim.Native.Nat.{ℕ}
use Rattle.stops.specs.Lent.{Change}
use Rattle.segment.specs.Store.{Store}
use Rattle.ggr.specs.File.{FileRead, Done, number_of_answer, line_of_answer, segments_of_answer}
use Rattle.ggr.specs.declared.Answer.{Answer}
use Rattle.colorgrad_c.specs.plain.Telling.{telling, Reply}
use Rattle.colorgrad_c.proofs.plain.Stored.{tells_same}
use Rattle.colorgrad_c.specs.Gimp.{ShowsFile}

-- what `ggr` promises of its answer, of the number and the numbers told
pub reads : {o : FileRead} {store : Change Store} {a : Answer} {r : Reply (List ℕ)} → Done o store a
    → (r.number ≡ number_of_answer a) × (r.told.exit ≡ telling (line_of_answer a ∷ segments_of_answer a ∷ []) r.told.entry)
    → ShowsFile o store r
reads d h =
    record {
      number = h.0 ∙ d.number;
      told = tells_same _ h.1 (ap₂ (λ (l n : ℕ). l ∷ n ∷ []) d.line d.segments_read);
      left = d.left;
    }
