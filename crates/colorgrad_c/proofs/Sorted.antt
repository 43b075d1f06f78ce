-- What is promised of an edit, and of a sort of list, is promised of one that equals it. Assumes nothing.
use mathlib.Core.Path.{◌≡◌, subst}
use Prim.Native.Nat.{ℕ}
use lib.Ieee.{Float}
use Rattle.stops.specs.Lent.{Ramp, Change}
use Rattle.sampling.specs.Lent.{Held}
use Rattle.linearize.specs.Lent.{Output}
use Rattle.linearize.specs.declared.Listed.{Listed}
use Rattle.refresh.specs.declared.editing.Edit.{Edit}
use Rattle.refresh.specs.RefreshDesk.{Refreshes, RefreshLists}
use Rattle.sampling.specs.declared.Sampled.{Sampled}
use Rattle.sheet.specs.Promises.{Opens, Edits}
use Rattle.sheet.specs.declared.ListSort.{ListSort}
use Rattle.sheet.specs.declared.SheetAnswer.{SheetAnswer}

module _ {ramp : Ramp} {e e' : Edit} {asked : Float} {held : Change Held} (is : e ≡ e') where
  pub refreshes_by : {r : Sampled} → Refreshes ramp e asked held r → Refreshes ramp e' asked held r
  refreshes_by {r} w = subst (λ (x : Edit). Refreshes ramp x asked held r) is w

  pub lists_by : {out : Change Output} {r : Listed} → RefreshLists ramp e asked held out r → RefreshLists ramp e' asked held out r
  lists_by {out} {r} w = subst (λ (x : Edit). RefreshLists ramp x asked held out r) is w

module _ {n : ℕ} {asked : Float} {sort sort' : ListSort} (is : sort ≡ sort') {held : Change Held} {out : Change Output} {r : SheetAnswer} where
  pub opens_by : {ramp : Ramp} → Opens ramp n asked sort held out r → Opens ramp n asked sort' held out r
  opens_by {ramp} w = subst (λ (x : ListSort). Opens ramp n asked x held out r) is w

  pub edits_by : {room : Change Ramp} {e e' : Edit} → e ≡ e' → Edits room n e asked sort held out r → Edits room n e' asked sort' held out r
  edits_by {room} {e} {e'} h w = subst (λ (x : ListSort). Edits room n e' asked x held out r) is (subst (λ (x : Edit). Edits room n x asked sort held out r) h w)
