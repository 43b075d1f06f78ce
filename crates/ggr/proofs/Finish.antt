-- The whole read: the order of the refusals, the zeroing, the name. Assumes nothing.
use Prim.Native.Nat.{ℕ, ◌-◌, ◌*◌, ◌≤◌}
use native.Mathlib.Nat.{sub-zero}
use native.Mathlib.Omega.{arith}
use mathlib.Core.Path.{◌≡◌, refl, sym, ap, ◌∙◌}
use mathlib.Core.Bool.{Bool, true, false}
use mathlib.Core.List.{List, []}
use lib.ListN.{length, drop, replicate, length-replicate}
use lib.Seq.{sets}
use lib.Ieee.{Float}
use Rattle.refusals.specs.Limits.{most_segments}
use Rattle.float.specs.F32.{f0}
use Rattle.slices.proofs.Stores.{sets_all}
use Rattle.blend.specs.declared.Rgba.{Rgba}
use Rattle.stops.specs.Lent.{Change, change}
use Rattle.stops.specs.Stops.{finite_rgba}
use Rattle.gradient.specs.declared.gimp.Segment.{Segment}
use Rattle.text.specs.Text.{lines}
use Rattle.segment.specs.declared.Rules.{Rules}
use Rattle.segment.specs.Store.{Store, store_of}
use Rattle.header.specs.declared.Lead.{Lead}
use Rattle.header.specs.declared.Lead.TheVariants.{Counted, Refuse}
use Rattle.header.specs.Head.{head_of, name_in}
use Rattle.header.specs.Leads.{head_by, lead_fits, Leads}
use Rattle.ggr.specs.declared.Answer.{Answer}
use Rattle.ggr.specs.declared.Answer.TheVariants.{Read, Refused}
use Rattle.ggr.specs.File.{FileRead, found, refused, segment_lines, fit_lines, from_head, fit_text, file_of, answer_of, number_of_answer, line_of_answer, segments_of_answer, number_in, line_in, segments_in, store_left, segment_room, Done, transparent, when_read, name_of}
use Rattle.ggr.specs.inner.Steps.{Filled}

-- ---- the order of the refusals
module _ (rules : Rules) (room : ℕ) (fg bg : Rgba) (s : List ℕ) where
  pub file_fg : finite_rgba fg ≡ false → file_of rules room fg bg s ≡ refused 2 0
  unfolding file_of
  file_fg e = rw e

  pub file_bg : finite_rgba fg ≡ true → finite_rgba bg ≡ false → file_of rules room fg bg s ≡ refused 2 0
  unfolding file_of
  file_bg e f = rw (e, f)

  pub file_text : finite_rgba fg ≡ true → finite_rgba bg ≡ true → fit_text rules s ≡ false → file_of rules room fg bg s ≡ refused 10 0
  unfolding file_of
  file_text e f g = rw (e, f, g)

pub filled_as : (o o' : FileRead) (store : Change Store) (r : Answer) → o ≡ o' → Filled o' store r → Filled o store r
filled_as o o' store r e w = rw e w

-- ---- where the header leads, read with the room that there is
module _ (rules : Rules) (fg bg : Rgba) (s : List ℕ) {room asked : ℕ} (q : asked ≡ room) (e : finite_rgba fg ≡ true) (f : finite_rgba bg ≡ true) (g : fit_text rules s ≡ true) {r : Lead} (w : Leads asked s r) where
  file_head : file_of rules room fg bg s ≡ from_head rules fg bg (head_by r s)
  unfolding file_of
  file_head = rw (e, f, g) (ap (λ (n : ℕ). from_head rules fg bg (head_of n s)) (sym q) ∙ ap (from_head rules fg bg) w.same)

  pub file_refuse : (a b : ℕ) → r ≡ Refuse a b → file_of rules room fg bg s ≡ refused a b
  unfolding head_by from_head
  file_refuse a b h = file_head ∙ rw h

  module _ (n at : ℕ) (h : r ≡ Counted n at) {t : Bool} (fit : t ≡ fit_lines rules n (lines (drop at s))) where
    pub file_unfit : t ≡ false → file_of rules room fg bg s ≡ refused 10 0
    unfolding head_by from_head
    file_unfit i = file_head ∙ rw (h, ← fit, i)

    pub file_counted : t ≡ true → file_of rules room fg bg s ≡ segment_lines rules fg bg n 4 f0 (lines (drop at s))
    unfolding head_by from_head
    file_counted i = file_head ∙ rw (h, ← fit, i)

pub lead_fits_lem : {room : ℕ} {s : List ℕ} {r : Lead} → Leads room s r → (n at : ℕ) → r ≡ Counted n at → (n ≤ most_segments) × (n ≤ room)
unfolding lead_fits
lead_fits_lem w n at e = rw e at w.fits

pub room_fits : (n p c k : ℕ) → n ≤ segment_room p c k → (3 * n ≤ p) × (8 * n ≤ c) × (2 * n ≤ k)
unfolding segment_room
room_fits n p c k h = omega arith

-- ---- the end
-- an answer's number, line and segments are those of what the file holds
told : (o : FileRead) → (number_of_answer (answer_of o) ≡ number_in o) × (line_of_answer (answer_of o) ≡ line_in o) × (segments_of_answer (answer_of o) ≡ segments_in o)
told (found gs) = (refl, refl, refl)
told (refused a b) = (refl, refl, refl)

-- a slice set to zero from its start
all_zero : {A : Type 0} (z : A) (l : List A) → sets l 0 (replicate (length l - 0) z) ≡ replicate (length l) z
all_zero z l = ap (λ (n : ℕ). sets l 0 (replicate n z)) (sub-zero (length l)) ∙ sets_all l (replicate (length l) z) (length-replicate (length l) z)

module _ (o : FileRead) (r : Answer) (store : Change Store) (w : Filled o store r) where
  found_by : (o : FileRead) (n : ℕ) → r ≡ Read n → r ≡ answer_of o → (gs : List Segment) × (o ≡ found gs)
  found_by (found gs) n e f = (gs, refl)
  found_by (refused a b) n e f = absurd (let z : ◌≡◌ {A = ℕ} 0 1 = cc in omega arith)

  refused_by : (o : FileRead) (a b : ℕ) → r ≡ Refused a b → r ≡ answer_of o → o ≡ refused a b
  refused_by (found gs) a b e f = absurd (let z : ◌≡◌ {A = ℕ} 0 1 = cc in omega arith)
  refused_by (refused x y) a b e f = cc

  done : (after : Store) → after ≡ store_left o store.entry → Done o (change store.entry after) r
  done after e = record {
    answer = w.answer;
    number = rw w.answer (told o).0;
    line = rw w.answer (told o).1;
    segments_read = rw w.answer (told o).2;
    left = e;
  }

  pub done_read : (n : ℕ) → r ≡ Read n → Done o store r
  done_read n e = let g = found_by o n e w.answer in done store.exit (w.left g.0 g.1)

  module _ (lp : length store.exit.positions ≡ length store.entry.positions) (lc : length store.exit.channels ≡ length store.entry.channels) (lk : length store.exit.codes ≡ length store.entry.codes) where
    pub done_refused : (a b : ℕ) → r ≡ Refused a b → (p c : List Float) (k : List ℕ)
        → p ≡ sets store.exit.positions 0 (replicate (length store.exit.positions - 0) f0)
        → c ≡ sets store.exit.channels 0 (replicate (length store.exit.channels - 0) f0)
        → k ≡ replicate (length store.exit.codes) 0 → Done o (change store.entry (store_of p c k)) r
    unfolding store_left
    done_refused a b e p c k ep ec ek =
        let g = refused_by o a b e w.answer in
        let zp : p ≡ replicate (length store.entry.positions) f0 = ep ∙ all_zero f0 store.exit.positions ∙ ap (λ (n : ℕ). replicate n f0) lp in
        let zc : c ≡ replicate (length store.entry.channels) f0 = ec ∙ all_zero f0 store.exit.channels ∙ ap (λ (n : ℕ). replicate n f0) lc in
        let zk : k ≡ replicate (length store.entry.codes) 0 = ek ∙ ap (λ (n : ℕ). replicate n 0) lk in
        done (store_of p c k) (rw (zp, zc, zk) (ap (λ (x : FileRead). store_left x store.entry) (sym g)))

-- ---- the name
module _ (rules : Rules) (s : List ℕ) (r : Answer) (e : r ≡ answer_of (file_of rules most_segments transparent transparent s)) where
  is_found : (o : FileRead) (n : ℕ) → r ≡ Read n → r ≡ answer_of o → (x : List ℕ) → when_read o x ≡ x
  unfolding when_read
  is_found (found gs) n f g x = refl
  is_found (refused a b) n f g x = absurd (let z : ◌≡◌ {A = ℕ} 0 1 = cc in omega arith)

  is_refused : (o : FileRead) (a b : ℕ) → r ≡ Refused a b → r ≡ answer_of o → (x : List ℕ) → when_read o x ≡ []
  unfolding when_read
  is_refused (found gs) a b f g x = absurd (let z : ◌≡◌ {A = ℕ} 0 1 = cc in omega arith)
  is_refused (refused c d) a b f g x = refl

  pub name_none : (a b : ℕ) → r ≡ Refused a b → [] ≡ name_of rules s
  unfolding name_of
  name_none a b f = sym (is_refused (file_of rules most_segments transparent transparent s) a b f e _)

  pub name_read : (n : ℕ) → r ≡ Read n → name_in s ≡ name_of rules s
  unfolding name_of
  name_read n f = sym (is_found (file_of rules most_segments transparent transparent s) n f e _)
