-- An answer of the writer told, and a name written. Assumes nothing.
use mathlib.Core.Path.{◌≡◌, ap, ◌∙◌}
use mathlib.Core.List.{List, [], ◌∷◌}
use Prim.Native.Nat.{ℕ}
use lib.ListN.{length}
use Rattle.stops.specs.Lent.{Change}
use Rattle.colorgrad_c.specs.plain.Telling.{telling, Reply}
use Rattle.colorgrad_c.specs.plain.Name.{named}
use Rattle.colorgrad_c.proofs.plain.Stored.{tells_same}
use Rattle.ggr_writing.specs.File.{FileWritten, WritesAs, number_of_write_answer, bytes_of_write_answer}
use Rattle.ggr_writing.specs.declared.WriteAnswer.{WriteAnswer}
use Rattle.colorgrad_c.specs.Writer.{ShowsText}

-- what `ggr_writing` promises of its answer, of the number and the bytes told
pub shows_written : {o : FileWritten} {out : Change (List ℕ)} {a : WriteAnswer} {r : Reply (List ℕ)} → WritesAs o out a
    → (r.number ≡ number_of_write_answer a) × (r.told.exit ≡ telling (bytes_of_write_answer a ∷ []) r.told.entry)
    → ShowsText o out r
shows_written d h =
    record {
      number = h.0 ∙ ap number_of_write_answer d.answer;
      told = tells_same _ h.1 (ap (λ (x : WriteAnswer). bytes_of_write_answer x ∷ []) d.answer);
      left = d.left;
    }

-- what is written of a name is written of one that equals it
pub written_same : (out : List ℕ) {out' name name' : List ℕ} {r : ℕ} → (r ≡ length name) × (out' ≡ named name out) → name ≡ name' → (r ≡ length name') × (out' ≡ named name' out)
written_same out h e = (h.0 ∙ ap length e, h.1 ∙ ap (λ (l : List ℕ). named l out) e)
