-- `tell_written` meets its contract: each case of an answer is told. Assumes nothing.
use mathlib.Core.List.{[], ◌∷◌}
use Rattle.ggr_writing.specs.File.{number_of_write_answer, bytes_of_write_answer}
use Rattle.ggr_writing.specs.declared.WriteAnswer.{WriteAnswer}
use Rattle.colorgrad_c.proofs.plain.Stored.{told_case}
use Rattle.colorgrad_c.proofs.writer.tell_written.Goals as goal

pub returns-in-Written : goal.returns-in-Written
returns-in-Written c =
    let k = told_case _ number_of_write_answer (λ (x : WriteAnswer). bytes_of_write_answer x ∷ []) c.in-Written.is c.tell.ensures in
    record { value = k.0; told_value = k.1 }

pub returns-in-Refused : goal.returns-in-Refused
returns-in-Refused c =
    let k = told_case _ number_of_write_answer (λ (x : WriteAnswer). bytes_of_write_answer x ∷ []) c.in-Refused.is c.tell-in-Refused.ensures in
    record { value = k.0; told_value = k.1 }
