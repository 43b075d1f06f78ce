-- `colorgrad_sheet_edit_told` meets its contract: the call for the kind of the code, its answer told; a code that names none is refused. Assumes nothing.
use mathlib.Core.Path.{refl}
use Rattle.refusals.specs.Refusals.{misshapen}
use Rattle.sheet.specs.declared.SheetAnswer.TheVariants.{Refused}
use Rattle.colorgrad_c.proofs.plain.Coding.{of_a_kind, of_no_kind, paired}
use Rattle.colorgrad_c.proofs.Sorted.{edits_by}
use Rattle.colorgrad_c.proofs.sheets.colorgrad_sheet_edit_told.Goals as goal

pub returns-in_default : goal.returns-in_default
returns-in_default c =
    of_no_kind (Refused misshapen) c.kind_of.ensures c.in_default.is (refl, ((λ kind. refl), (refl, refl))) (paired c.tell_sheet.ensures.value c.tell_sheet.ensures.told_value)

pub returns : goal.returns
returns c =
    of_a_kind _ c.kind_of.ensures c.in-Some.is (edits_by c.list_sort_of.ensures c.edit_of-edit.ensures c.edit-answer.ensures) (paired c.tell_sheet-2.ensures.value c.tell_sheet-2.ensures.told_value)
