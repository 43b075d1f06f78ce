-- `tell_read` meets its contract: each case of an answer is told. Assumes nothing.
use mathlib.Core.List.{[], ◌∷◌}
use Rattle.ggr.specs.File.{number_of_answer, line_of_answer, segments_of_answer}
use Rattle.ggr.specs.declared.Answer.{Answer}
use Rattle.colorgrad_c.proofs.plain.Stored.{told_case}
use Rattle.colorgrad_c.proofs.gimp.tell_read.Goals as goal

pub returns-in-Read : goal.returns-in-Read
returns-in-Read c =
    let k = told_case _ number_of_answer (λ (x : Answer). line_of_answer x ∷ segments_of_answer x ∷ []) c.in-Read.is c.tell.ensures in
    record { value = k.0; told_value = k.1 }

pub returns-in-Refused : goal.returns-in-Refused
returns-in-Refused c =
    let k = told_case _ number_of_answer (λ (x : Answer). line_of_answer x ∷ segments_of_answer x ∷ []) c.in-Refused.is c.tell-in-Refused.ensures in
    record { value = k.0; told_value = k.1 }
