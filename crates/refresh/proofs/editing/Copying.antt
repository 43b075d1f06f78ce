-- What an edit reaches, and its copy, from what the functions within give. Assumes nothing.
use mathlib.Core.Path.{◌≡◌, refl, sym, ap, ◌∙◌, subst}
use mathlib.Core.Bool.{true, false, cond, ◌&&◌}
use mathlib.Core.List.{List}
use Prim.Native.Nat.{ℕ, ◌+◌, ◌*◌, ◌≤◌, ◌<◌}
use native.Mathlib.Omega.{arith}
use borrow.Author.Tests.{lt-ltb, le-leb, eq-eqb, leb-true, ltb-true, eqb-true}
use lib.Dec.{leb, ltb, eqb}
use lib.ListN.{length}
use lib.Seq.{sets}
use lib.Ieee.{Float}
use Rattle.refusals.specs.Refusals.{misshapen}
use Rattle.refusals.specs.Limits.{most_stops}
use Rattle.float.proofs.Flags.{both_l, both_r}
use Rattle.stops.specs.declared.Kind.{Kind}
use Rattle.stops.specs.Answers.{on_fine}
use Rattle.stops.specs.declared.Checked.{Checked}
use Rattle.stops.specs.declared.Checked.TheVariants as checked
use Rattle.refresh.specs.editing.Edited.{stop_of, gone_of, positions_after, channels_after, stops_after}
use Rattle.refresh.specs.editing.Rules.{edit_allowed}
use Rattle.refresh.specs.editing.Copied.{copy_fits, copy_check, copy_answer, Copies}
use Rattle.refresh.specs.declared.editing.Edit.{Edit}
use Rattle.refresh.specs.declared.editing.Edit.TheVariants.{Colour, Move, Add, Remove}
use Rattle.refresh.specs.declared.editing.copy.Copied.TheVariants as copied
use Rattle.refresh.proofs.editing.EditRules.{colour_passes, move_passes, add_passes, remove_passes}

-- ---- the lists, edit by edit
module _ {e e' : Edit} (is : e ≡ e') where
  pub channels_as : (n : ℕ) → 4 * stop_of e + 4 * gone_of e ≤ n → 4 * stop_of e' + 4 * gone_of e' ≤ n
  channels_as n l = subst (λ (x : Edit). 4 * stop_of x + 4 * gone_of x ≤ n) is l

  pub channels_by : (r l cs : List Float) → r ≡ sets l 0 (channels_after cs e') → r ≡ sets l 0 (channels_after cs e)
  channels_by r l cs k = k ∙ ap (λ (x : Edit). sets l 0 (channels_after cs x)) (sym is)

-- ---- numbers
module _ (n m places colours : ℕ) where
  pub record Room : Type 0 where
    pub most : n ≤ most_stops
    pub four : m ≡ 4 * n
    pub some : n + 1 ≤ places
    pub wide : m + 4 ≤ colours

  pub room_is : copy_fits n m places colours ≡ true → Room
  unfolding copy_fits
  room_is h =
      let a = leb n most_stops in
      let b = eqb m (4 * n) in
      let c = ltb n places in
      let d = leb (m + 4) colours in
      let u = both_r a (b && (c && d)) h in
      let v = both_r b (c && d) u in
      let l : n < places = ltb-true n places (both_l c d v) in
      record { most = leb-true n most_stops (both_l a (b && (c && d)) h); four = eqb-true m (4 * n) (both_l b (c && d) u); some = omega arith; wide = leb-true (m + 4) colours (both_r c d v) }

-- the stop of an edit that passes is there
pub stop_there : (kind : Kind) (ps : List Float) (e : Edit) → edit_allowed kind ps e ≡ checked.Fine → stop_of e + gone_of e ≤ length ps
stop_there kind ps (Colour k c) h = let w = colour_passes kind ps k c h in let l = w.there in omega arith
stop_there kind ps (Move k p) h = let w = move_passes kind ps k p h in let l = w.inner in omega arith
stop_there kind ps (Add k p c) h = let w = add_passes kind ps k p c h in let l = w.next in omega arith
stop_there kind ps (Remove k) h = let w = remove_passes kind ps k h in let l = w.inner in omega arith

-- ---- the answers of the copy
module _ (kind : Kind) (ps cs : List Float) (e : Edit) (places colours : List Float) where
  pub copy_refused : (n : ℕ) → edit_allowed kind ps e ≡ checked.Refused n → Copies kind ps cs e places colours places colours (copied.Refused n)
  unfolding copy_check copy_answer
  copy_refused n h = record { answer = rw h; number = rw h; stops = rw h; written = rw h; coloured = rw h }

  module _ (fine : edit_allowed kind ps e ≡ checked.Fine) where
    pub no_copy : copy_fits (length ps) (length cs) (length places) (length colours) ≡ false → Copies kind ps cs e places colours places colours (copied.Refused misshapen)
    unfolding copy_check copy_answer
    no_copy h = record { answer = rw (fine, h); number = rw (fine, h); stops = rw (fine, h); written = rw (fine, h); coloured = rw (fine, h) }

    pub copy_done : copy_fits (length ps) (length cs) (length places) (length colours) ≡ true → (places' colours' : List Float) (n : ℕ)
        → places' ≡ sets places 0 (positions_after ps e) → colours' ≡ sets colours 0 (channels_after cs e) → n ≡ stops_after (length ps) e
        → Copies kind ps cs e places colours places' colours' (copied.Stops n)
    unfolding copy_check copy_answer
    copy_done room places' colours' n p q s = record { answer = rw (fine, room) (ap copied.Stops s); number = rw (fine, room); stops = rw (fine, room) s; written = rw (fine, room) p; coloured = rw (fine, room) q }

  -- where the lengths fit, the check is the edit's
  pub copy_check_lem : (edit_allowed kind ps e ≡ checked.Fine → copy_fits (length ps) (length cs) (length places) (length colours) ≡ true) → copy_check kind ps cs e places colours ≡ edit_allowed kind ps e
  unfolding copy_check
  copy_check_lem fits = go (edit_allowed kind ps e) refl
    where
      go : (c : Checked) → edit_allowed kind ps e ≡ c
          → on_fine c (cond (copy_fits (length ps) (length cs) (length places) (length colours)) checked.Fine (checked.Refused misshapen)) checked.Refused ≡ c
      go checked.Fine h = rw (fits h)
      go (checked.Refused n) h = refl

-- lengths that fit
pub fits_are : (n m places colours : ℕ) → Room n m places colours → copy_fits n m places colours ≡ true
unfolding copy_fits
fits_are n m places colours r =
    let s = r.some in
    rw (le-leb n most_stops r.most, eq-eqb m (4 * n) r.four, lt-ltb n places (omega arith), le-leb (m + 4) colours r.wide)
