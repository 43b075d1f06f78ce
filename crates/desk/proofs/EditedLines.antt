-- The theorem of two texts: one whose last line is an `edit`, and one without that line and with the line of its stop changed, print the same stop lines. Assumes nothing.
use Prim.Native.Nat.{ℕ, zero, suc, ◌+◌, ◌<◌}
use native.Mathlib.Omega.{arith}
use mathlib.Core.Path.{◌≡◌, refl, sym, ap, ◌∙◌}
use mathlib.Core.Bool.{Bool, true, false, cond, true≢false}
use mathlib.Core.List.{List, [], ◌∷◌, ◌++◌}
use lib.ListN.{length}
use lib.Dec.{leb}
use lib.Ieee.{Float}
use borrow.Author.Tests.{le-leb}
use Rattle.blend.specs.declared.Rgba.{Rgba}
use Rattle.blend.specs.declared.Stop.{Stop}
use Rattle.stops.specs.declared.Kind.{Kind}
use Rattle.text.specs.Text.{lines}
use Rattle.sampling.specs.Constants.{default_threshold}
use Rattle.entries.specs.Entries.{entry_of}
use Rattle.entries.specs.Input.{Input, unread, input, most_bytes, if_stop, if_change, from_end, from_edit, stops_of, after_stops, from_stops, from_threshold, from_kind, input_of}
use Rattle.desk.specs.Recoloured.{recoloured, changed_line, changed_lines, SameStopLines, EditMade}
use Rattle.desk.specs.Tool.{desk_of}
use Rattle.entries.specs.declared.fields.Recolour.{Recolour}
use Rattle.entries.specs.declared.fields.Entry.{Entry}
use Rattle.entries.specs.declared.fields.Entry.TheVariants as entry
use Rattle.std.specs.Prelude.{Some, None}
use Rattle.desk.proofs.ChangedLines.{changed_entry}
use Rattle.desk.proofs.EditedText.{edited_text}

-- an input with the stop changed and no edit
abbrev redone : ℕ → Rgba → Input → Input
redone k c (unread line) = unread line
redone k c (input kind x stops e) = input kind x (recoloured stops k c) None

abbrev many_stops : Input → ℕ
many_stops (unread line) = 0
many_stops (input kind x stops e) = length stops

-- ---- lines that are all stops, and an edit after them
none_left : {l : List ℕ} {ls : List (List ℕ)} → l ∷ ls ≡ [] → ⊥
none_left {l} {ls} h = omega (arith, ap length h)

module _ (d : List ℕ) (e : Recolour) (last : entry_of d ≡ entry.Change e) where
  -- a line that is no stop is not followed by another one
  not_last : (k : Kind) (x : Float) (stops : List Stop) (line : ℕ) (f : Entry) (ls : List (List ℕ)) → many_stops (if_change f (λ y. from_end k x stops y (line + 1) (ls ++ d ∷ [])) (unread line)) ≡ 0
  unfolding from_end
  not_last k x stops line (entry.Ramp j) ls = refl
  not_last k x stops line (entry.Threshold y) ls = refl
  not_last k x stops line (entry.Stop s) ls = refl
  not_last k x stops line (entry.Change y) [] = refl
  not_last k x stops line (entry.Change y) (l ∷ ls) = refl
  not_last k x stops line entry.Unread ls = refl

  only_stops : (k : Kind) (x : Float) (stops : List Stop) (line : ℕ) (ls : List (List ℕ)) → 0 < many_stops (from_edit k x stops line (after_stops (ls ++ d ∷ []))) → after_stops ls ≡ []
  unfolding after_stops from_edit
  only_stops k x stops line [] h = refl
  only_stops k x stops line (l ∷ ls) h = go (entry_of l) h (only_stops k x stops line ls) where
    go : (f : Entry) → 0 < many_stops (from_edit k x stops line (if_stop f (λ s. after_stops (ls ++ d ∷ [])) (l ∷ (ls ++ d ∷ [])))) → (0 < many_stops (from_edit k x stops line (after_stops (ls ++ d ∷ []))) → after_stops ls ≡ []) → if_stop f (λ s. after_stops ls) (l ∷ ls) ≡ []
    go (entry.Ramp j) h r = absurd (omega (arith, not_last k x stops line (entry_of l) ls, h))
    go (entry.Threshold y) h r = absurd (omega (arith, not_last k x stops line (entry_of l) ls, h))
    go (entry.Stop s) h r = r h
    go (entry.Change y) h r = absurd (omega (arith, not_last k x stops line (entry_of l) ls, h))
    go entry.Unread h r = absurd (omega (arith, not_last k x stops line (entry_of l) ls, h))

  -- the stops, and the edit after them
  up_to_edit : (ls : List (List ℕ)) → after_stops ls ≡ [] → (stops_of (ls ++ d ∷ []) ≡ stops_of ls) × (after_stops (ls ++ d ∷ []) ≡ d ∷ [])
  unfolding stops_of after_stops
  up_to_edit [] h = (rw last, rw last)
  up_to_edit (l ∷ ls) h = go (entry_of l) h (up_to_edit ls) where
    go : (f : Entry) → if_stop f (λ s. after_stops ls) (l ∷ ls) ≡ [] → (after_stops ls ≡ [] → (stops_of (ls ++ d ∷ []) ≡ stops_of ls) × (after_stops (ls ++ d ∷ []) ≡ d ∷ []))
        → (if_stop f (λ s. s ∷ stops_of (ls ++ d ∷ [])) [] ≡ if_stop f (λ s. s ∷ stops_of ls) []) × (if_stop f (λ s. after_stops (ls ++ d ∷ [])) (l ∷ (ls ++ d ∷ [])) ≡ d ∷ [])
    go (entry.Ramp j) h r = absurd (none_left h)
    go (entry.Threshold y) h r = absurd (none_left h)
    go (entry.Stop s) h r = (ap (λ (l : List Stop). s ∷ l) (r h).0, (r h).1)
    go (entry.Change y) h r = absurd (none_left h)
    go entry.Unread h r = absurd (none_left h)

  -- the changed lines: stops alone, the one changed
  changed_stops : (k : ℕ) (ls : List (List ℕ)) → after_stops ls ≡ [] → k < length (stops_of ls) → (stops_of (changed_lines k d ls) ≡ recoloured (stops_of ls) k e.colour) × (after_stops (changed_lines k d ls) ≡ [])
  unfolding stops_of after_stops changed_lines recoloured
  changed_stops k [] h i = absurd (omega arith)
  changed_stops zero (l ∷ ls) h i = go (entry_of l) refl h i where
    go : (f : Entry) → entry_of l ≡ f → if_stop f (λ s. after_stops ls) (l ∷ ls) ≡ [] → zero < length (if_stop f (λ s. s ∷ stops_of ls) [])
        → (stops_of (if_stop f (λ s. changed_line l d ∷ ls) (l ∷ changed_lines zero d ls)) ≡ recoloured (if_stop f (λ s. s ∷ stops_of ls) []) zero e.colour) × (after_stops (if_stop f (λ s. changed_line l d ∷ ls) (l ∷ changed_lines zero d ls)) ≡ [])
    go (entry.Ramp j) g h i = absurd (none_left h)
    go (entry.Threshold y) g h i = absurd (none_left h)
    go (entry.Stop s) g h i = (rw (changed_entry l d g last), rw (changed_entry l d g last) h)
    go (entry.Change y) g h i = absurd (none_left h)
    go entry.Unread g h i = absurd (none_left h)
  changed_stops (suc k) (l ∷ ls) h i = go (entry_of l) refl h i (changed_stops k ls) where
    go : (f : Entry) → entry_of l ≡ f → if_stop f (λ s. after_stops ls) (l ∷ ls) ≡ [] → suc k < length (if_stop f (λ s. s ∷ stops_of ls) [])
        → (after_stops ls ≡ [] → k < length (stops_of ls) → (stops_of (changed_lines k d ls) ≡ recoloured (stops_of ls) k e.colour) × (after_stops (changed_lines k d ls) ≡ []))
        → (stops_of (if_stop f (λ s. l ∷ changed_lines k d ls) (l ∷ changed_lines (suc k) d ls)) ≡ recoloured (if_stop f (λ s. s ∷ stops_of ls) []) (suc k) e.colour) × (after_stops (if_stop f (λ s. l ∷ changed_lines k d ls) (l ∷ changed_lines (suc k) d ls)) ≡ [])
    go (entry.Ramp j) g h i r = absurd (none_left h)
    go (entry.Threshold y) g h i r = absurd (none_left h)
    go (entry.Stop s) g h i r = let w = r h (omega arith) in (rw g (ap (λ (l : List Stop). s ∷ l) w.0), rw g w.1)
    go (entry.Change y) g h i r = absurd (none_left h)
    go entry.Unread g h i r = absurd (none_left h)

  -- ---- the text, from its last kind of line to its first
  from_stops_lem : (k : ℕ) (kind : Kind) (x : Float) (line : ℕ) (ls : List (List ℕ)) → k < many_stops (from_stops kind x line (ls ++ d ∷ [])) → from_stops kind x line (changed_lines k d ls) ≡ redone k e.colour (from_stops kind x line (ls ++ d ∷ []))
  unfolding from_stops from_edit from_end
  from_stops_lem k kind x line ls h =
      let clear = only_stops kind x (stops_of (ls ++ d ∷ [])) (line + length (stops_of (ls ++ d ∷ []))) ls (omega arith) in
      let u = up_to_edit ls clear in
      let whole : from_stops kind x line (ls ++ d ∷ []) ≡ input kind x (stops_of ls) (Some e) = rw (u.0, u.1, last) in
      let c = changed_stops k ls clear (omega (arith, ap many_stops whole)) in
      let done : from_stops kind x line (changed_lines k d ls) ≡ input kind x (recoloured (stops_of ls) k e.colour) None = rw (c.0, c.1) in
      done ∙ sym (ap (redone k e.colour) whole)

  changed_none : (k : ℕ) → changed_lines k d [] ≡ []
  unfolding changed_lines
  changed_none zero = refl
  changed_none (suc k) = refl

  -- a line that is no stop stays
  changed_ramp : (k : ℕ) (l : List ℕ) (ls : List (List ℕ)) {kind : Kind} → entry_of l ≡ entry.Ramp kind → changed_lines k d (l ∷ ls) ≡ l ∷ changed_lines k d ls
  unfolding changed_lines
  changed_ramp zero l ls g = rw g
  changed_ramp (suc k) l ls g = rw g

  changed_threshold : (k : ℕ) (l : List ℕ) (ls : List (List ℕ)) {x : Float} → entry_of l ≡ entry.Threshold x → changed_lines k d (l ∷ ls) ≡ l ∷ changed_lines k d ls
  unfolding changed_lines
  changed_threshold zero l ls g = rw g
  changed_threshold (suc k) l ls g = rw g

  abbrev is_threshold : Entry → Bool
  is_threshold (entry.Ramp k) = false
  is_threshold (entry.Threshold x) = true
  is_threshold (entry.Stop s) = false
  is_threshold (entry.Change y) = false
  is_threshold entry.Unread = false

  no_threshold : (kind : Kind) (l : List ℕ) (ls : List (List ℕ)) (f : Entry) → entry_of l ≡ f → is_threshold f ≡ false → from_threshold kind (l ∷ ls) ≡ from_stops kind default_threshold 2 (l ∷ ls)
  unfolding from_threshold
  no_threshold kind l ls (entry.Ramp j) g h = rw g
  no_threshold kind l ls (entry.Threshold x) g h = absurd (true≢false h)
  no_threshold kind l ls (entry.Stop s) g h = rw g
  no_threshold kind l ls (entry.Change y) g h = rw g
  no_threshold kind l ls entry.Unread g h = rw g

  still_none : (kind : Kind) (k : ℕ) (l : List ℕ) (ls : List (List ℕ)) (f : Entry) → entry_of l ≡ f → is_threshold f ≡ false → from_threshold kind (changed_lines k d (l ∷ ls)) ≡ from_stops kind default_threshold 2 (changed_lines k d (l ∷ ls))
  unfolding changed_lines
  still_none kind zero l ls (entry.Ramp j) g h = rw g (no_threshold kind l (changed_lines zero d ls) (entry.Ramp j) g h)
  still_none kind zero l ls (entry.Threshold x) g h = absurd (true≢false h)
  still_none kind zero l ls (entry.Stop s) g h = rw g (no_threshold kind (changed_line l d) ls _ (changed_entry l d g last) refl)
  still_none kind zero l ls (entry.Change y) g h = rw g (no_threshold kind l (changed_lines zero d ls) (entry.Change y) g h)
  still_none kind zero l ls entry.Unread g h = rw g (no_threshold kind l (changed_lines zero d ls) entry.Unread g h)
  still_none kind (suc k) l ls (entry.Ramp j) g h = rw g (no_threshold kind l (changed_lines (suc k) d ls) (entry.Ramp j) g h)
  still_none kind (suc k) l ls (entry.Threshold x) g h = absurd (true≢false h)
  still_none kind (suc k) l ls (entry.Stop s) g h = rw g (no_threshold kind l (changed_lines k d ls) (entry.Stop s) g h)
  still_none kind (suc k) l ls (entry.Change y) g h = rw g (no_threshold kind l (changed_lines (suc k) d ls) (entry.Change y) g h)
  still_none kind (suc k) l ls entry.Unread g h = rw g (no_threshold kind l (changed_lines (suc k) d ls) entry.Unread g h)

  -- with a threshold, and without
  with_threshold : (k : ℕ) (kind : Kind) (l : List ℕ) (ls : List (List ℕ)) {x : Float} → entry_of l ≡ entry.Threshold x → k < many_stops (from_threshold kind (l ∷ (ls ++ d ∷ []))) → from_threshold kind (changed_lines k d (l ∷ ls)) ≡ redone k e.colour (from_threshold kind (l ∷ (ls ++ d ∷ [])))
  unfolding from_threshold
  with_threshold k kind l ls {x} g h =
      let old : from_threshold kind (l ∷ (ls ++ d ∷ [])) ≡ from_stops kind x 3 (ls ++ d ∷ []) = rw g in
      let new : from_threshold kind (l ∷ changed_lines k d ls) ≡ from_stops kind x 3 (changed_lines k d ls) = rw g in
      ap (from_threshold kind) (changed_threshold k l ls g) ∙ new ∙ from_stops_lem k kind x 3 ls (omega (arith, ap many_stops old)) ∙ sym (ap (redone k e.colour) old)

  without_threshold : (k : ℕ) (kind : Kind) (l : List ℕ) (ls : List (List ℕ)) (f : Entry) → entry_of l ≡ f → is_threshold f ≡ false → k < many_stops (from_threshold kind (l ∷ (ls ++ d ∷ []))) → from_threshold kind (changed_lines k d (l ∷ ls)) ≡ redone k e.colour (from_threshold kind (l ∷ (ls ++ d ∷ [])))
  without_threshold k kind l ls f g n h =
      let old = no_threshold kind l (ls ++ d ∷ []) f g n in
      still_none kind k l ls f g n ∙ from_stops_lem k kind default_threshold 2 (l ∷ ls) (omega (arith, ap many_stops old)) ∙ sym (ap (redone k e.colour) old)

  from_threshold_lem : (k : ℕ) (kind : Kind) (ls : List (List ℕ)) → k < many_stops (from_threshold kind (ls ++ d ∷ [])) → from_threshold kind (changed_lines k d ls) ≡ redone k e.colour (from_threshold kind (ls ++ d ∷ []))
  unfolding from_threshold
  from_threshold_lem k kind [] h =
      let old = no_threshold kind d [] (entry.Change e) last refl in
      ap (from_threshold kind) (changed_none k) ∙ ap (from_stops kind default_threshold 2) (sym (changed_none k))
      ∙ from_stops_lem k kind default_threshold 2 [] (omega (arith, ap many_stops old)) ∙ sym (ap (redone k e.colour) old)
  from_threshold_lem k kind (l ∷ ls) h = go (entry_of l) refl where
    go : (f : Entry) → entry_of l ≡ f → from_threshold kind (changed_lines k d (l ∷ ls)) ≡ redone k e.colour (from_threshold kind (l ∷ (ls ++ d ∷ [])))
    go (entry.Ramp j) g = without_threshold k kind l ls (entry.Ramp j) g refl h
    go (entry.Threshold x) g = with_threshold k kind l ls g h
    go (entry.Stop s) g = without_threshold k kind l ls (entry.Stop s) g refl h
    go (entry.Change y) g = without_threshold k kind l ls (entry.Change y) g refl h
    go entry.Unread g = without_threshold k kind l ls entry.Unread g refl h

  from_kind_lem : (k : ℕ) (ls : List (List ℕ)) → k < many_stops (from_kind (ls ++ d ∷ [])) → from_kind (changed_lines k d ls) ≡ redone k e.colour (from_kind (ls ++ d ∷ []))
  unfolding from_kind
  from_kind_lem k [] h = absurd (let none : many_stops (from_kind (d ∷ [])) ≡ 0 = rw last in omega arith)
  from_kind_lem k (l ∷ ls) h = go (entry_of l) refl where
    go : (f : Entry) → entry_of l ≡ f → from_kind (changed_lines k d (l ∷ ls)) ≡ redone k e.colour (from_kind (l ∷ (ls ++ d ∷ [])))
    go (entry.Ramp kind) g =
        let old : from_kind (l ∷ (ls ++ d ∷ [])) ≡ from_threshold kind (ls ++ d ∷ []) = rw g in
        let new : from_kind (l ∷ changed_lines k d ls) ≡ from_threshold kind (changed_lines k d ls) = rw g in
        ap from_kind (changed_ramp k l ls g) ∙ new ∙ from_threshold_lem k kind ls (omega (arith, ap many_stops old)) ∙ sym (ap (redone k e.colour) old)
    go (entry.Threshold x) g = absurd (let none : many_stops (from_kind (l ∷ (ls ++ d ∷ []))) ≡ 0 = rw g in omega arith)
    go (entry.Stop s) g = absurd (let none : many_stops (from_kind (l ∷ (ls ++ d ∷ []))) ≡ 0 = rw g in omega arith)
    go (entry.Change y) g = absurd (let none : many_stops (from_kind (l ∷ (ls ++ d ∷ []))) ≡ 0 = rw g in omega arith)
    go entry.Unread g = absurd (let none : many_stops (from_kind (l ∷ (ls ++ d ∷ []))) ≡ 0 = rw g in omega arith)

-- ---- the texts
module _ (s s' : List ℕ) {kind : Kind} {asked : Float} {stops : List Stop} {e : Recolour} (with_edit : input_of s ≡ input kind asked stops (Some e)) (there : e.stop < length stops) (w : EditMade s s' e) where
  whole : from_kind (w.body ++ w.last ∷ []) ≡ input kind asked stops (Some e)
  unfolding input_of
  whole = go (leb (length s) most_bytes) with_edit where
    go : (t : Bool) → cond t (from_kind (lines s)) (unread 0) ≡ input kind asked stops (Some e) → from_kind (w.body ++ w.last ∷ []) ≡ input kind asked stops (Some e)
    go true h = ap from_kind (sym w.before) ∙ h
    go false h = absurd (omega (arith, ap many_stops h, there))

  pub lines_read : input_of s' ≡ input kind asked (recoloured stops e.stop e.colour) None
  unfolding input_of
  lines_read =
      rw (le-leb (length s') most_bytes w.fits)
      (ap from_kind w.after ∙ from_kind_lem w.last e w.says e.stop w.body (omega (arith, ap many_stops whole, there)) ∙ ap (redone e.stop e.colour) whole)

  pub edited_lines : SameStopLines (desk_of s) (desk_of s')
  edited_lines = edited_text s s' with_edit there lines_read
