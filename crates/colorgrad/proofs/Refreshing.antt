-- Refreshed is fresh: for every ramp that can be sampled, every threshold, and every edit that is allowed (a finite colour of a stop that there is: linear, smoothstep, basis or Catmull-Rom; a stop moved, added or removed: linear or smoothstep). A
-- refresh with another threshold than the sampling's is no case apart: it is refused.
-- First of the definitions; then, handed on from `refresh`, of the calls. Assumes nothing.
use mathlib.Core.Path.{◌≡◌, ap, ◌∙◌}
use lib.Dec.{T}
use lib.Ieee.{Float, binary32, fits}
use Rattle.stops.specs.Lent.{Ramp}
use Rattle.stops.specs.declared.Checked.TheVariants.{Fine}
use Rattle.sampling.specs.Lent.{Held}
use Rattle.sampling.specs.Sampling.{marks_of, held_check, fresh, sample_held}
use Rattle.linearize.specs.Desk.{flatten_output}
use Rattle.sampling.proofs.Words.{same_threshold}
use Rattle.refresh.specs.editing.Edited.{edited}
use Rattle.refresh.specs.RefreshDesk.{refresh_check, renewed, refresh_held, refresh_output}
use Rattle.refresh.specs.declared.editing.Edit.{Edit}
use Rattle.refresh.proofs.EditChecks.{allowed, own_words, edited_sampling}
use Rattle.refresh.proofs.Theorem as theorem
use Rattle.colorgrad.specs.Fresh.{RefreshedIsFresh}
-- of any results that the contracts allow: records and lists, and the cells clear of the edit
pub use Rattle.refresh.proofs.Calls.{refresh_by_threshold, refresh_is_fresh, refresh_list_is_fresh, refresh_list_is_both, clear_cells_stay, clear_cells_agree, clear_cells_same}

words_alike : (ramp : Ramp) (e : Edit) (asked mine : Float) → refresh_check ramp e mine (fresh ramp asked) ≡ Fine → marks_of ramp asked ≡ marks_of ramp mine
unfolding fresh
words_alike ramp e asked mine h = own_words ramp e mine (fresh ramp asked) h

-- the refresh's check is passed: so its threshold is the one that the record was sampled with
pub refreshed_is_fresh : (ramp : Ramp) (e : Edit) (asked mine : Float) (was : Held) → T (fits binary32 asked) → T (fits binary32 mine)
    → held_check ramp was ≡ Fine → refresh_check ramp e mine (sample_held ramp asked was) ≡ Fine → RefreshedIsFresh ramp e asked mine was
unfolding refresh_held sample_held refresh_output flatten_output
refreshed_is_fresh ramp e asked mine was single single' fine h =
    let passes : refresh_check ramp e mine (fresh ramp asked) ≡ Fine = rw fine at h in
    let ok = allowed ramp e mine (fresh ramp asked) passes in
    let words = words_alike ramp e asked mine passes in
    let alike = theorem.fresh_alike ramp asked mine (same_threshold ramp ramp asked mine single single' words) in
    let anew = edited_sampling ramp e ok was fine in
    let one : renewed ramp e mine (fresh ramp asked) ≡ fresh (edited ramp e) mine = ap (renewed ramp e mine) alike ∙ theorem.fresh-renewed ramp e ok mine in
    record { same_record = rw (fine, passes, anew) one; same_output = λ out. rw (fine, passes, anew, one) }
