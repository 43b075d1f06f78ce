-- The theorem of two texts written line by line, each line ended by LF: the one that has the changed line and no `edit` line is the shorter one, and reads back as its lines. Assumes nothing.
use Prim.Native.Nat.{ℕ, zero, suc, ◌+◌, ◌≤◌, ◌<◌}
use native.Mathlib.Omega.{arith}
use mathlib.Core.Path.{◌≡◌, refl, sym, ap, ◌∙◌}
use mathlib.Core.Bool.{Bool, true, false, not, cond, ◌&&◌, true≢false}
use mathlib.Core.List.{List, [], ◌∷◌, ◌++◌}
use lib.ListN.{length, drop, length-append, length-drop}
use lib.Dec.{leb, eqb}
use lib.Ieee.{Float}
use borrow.Author.Tests.{leb-true, not-true}
use Rattle.float.proofs.Flags.{both_l, both_r}
use Rattle.blend.specs.declared.Stop.{Stop}
use Rattle.stops.specs.declared.Kind.{Kind}
use Rattle.text.specs.Text.{every, at_lf, on_first, lines}
use Rattle.text.proofs.Bytes.{every_both, every_drop}
use Rattle.rows.proofs.Fields.{few_fields}
use Rattle.entries.specs.Entries.{entry_of}
use Rattle.entries.specs.Input.{Input, unread, input, most_bytes, if_stop, from_kind, input_of}
use Rattle.desk.specs.Recoloured.{to_tab, after_tab, changed_line, changed_lines, SameStopLines, in_line, text_of_lines, unbroken}
use Rattle.desk.specs.Tool.{desk_of}
use Rattle.entries.specs.declared.fields.Recolour.{Recolour}
use Rattle.entries.specs.declared.fields.Entry.{Entry}
use Rattle.entries.specs.declared.fields.Entry.TheVariants as entry
use Rattle.std.specs.Prelude.{Some}
use Rattle.desk.proofs.ChangedLines.{edit_fields}
use Rattle.desk.proofs.EditedLines.{edited_lines}

-- ---- lines that are written are read back
no_cr : (t u : Bool) → u ≡ false → (t && u) ≡ false
no_cr true u h = h
no_cr false u h = refl

line_back : (l t : List ℕ) → every in_line l ≡ true → lines (l ++ 10 ∷ t) ≡ l ∷ lines t
unfolding lines every on_first
line_back [] t h = refl
line_back (b ∷ l) t h =
    let here = both_l (in_line b) (every in_line l) h in
    let lf : eqb b 10 ≡ false = not-true _ (both_l (not (eqb b 10)) (not (eqb b 13)) here) in
    let cr : eqb b 13 ≡ false = not-true _ (both_r (not (eqb b 10)) (not (eqb b 13)) here) in
    rw (lf, no_cr (at_lf (l ++ 10 ∷ t)) (eqb b 13) cr, line_back l t (both_r (in_line b) (every in_line l) h))

lines_back : (ls : List (List ℕ)) → unbroken ls ≡ true → lines (text_of_lines ls) ≡ ls
unfolding text_of_lines unbroken lines
lines_back [] h = refl
lines_back (l ∷ ls) h = line_back l (text_of_lines ls) (both_l (every in_line l) (unbroken ls) h) ∙ ap (λ (ms : List (List ℕ)). l ∷ ms) (lines_back ls (both_r (every in_line l) (unbroken ls) h))

-- ---- parts of lines
module _ (p : ℕ → Bool) where
  every_to : (s : List ℕ) → every p s ≡ true → every p (to_tab s) ≡ true
  unfolding every to_tab
  every_to [] h = refl
  every_to (b ∷ s) h = go (eqb b 9) (both_l (p b) (every p s) h) (every_to s (both_r (p b) (every p s) h)) where
    go : (t : Bool) → p b ≡ true → every p (to_tab s) ≡ true → every p (cond t (b ∷ []) (b ∷ to_tab s)) ≡ true
    go true a r = rw a
    go false a r = rw (a, r)

  every_after : (s : List ℕ) → every p s ≡ true → every p (after_tab s) ≡ true
  unfolding every after_tab
  every_after [] h = refl
  every_after (b ∷ s) h = go (eqb b 9) (both_r (p b) (every p s) h) (every_after s (both_r (p b) (every p s) h)) where
    go : (t : Bool) → every p s ≡ true → every p (after_tab s) ≡ true → every p (cond t s (after_tab s)) ≡ true
    go true a r = a
    go false a r = r

length_to : (s : List ℕ) → length (to_tab s) ≤ length s
unfolding to_tab
length_to [] = omega arith
length_to (b ∷ s) = go (eqb b 9) (length_to s) where
  go : (t : Bool) → length (to_tab s) ≤ length s → length (cond t (b ∷ []) (b ∷ to_tab s)) ≤ suc (length s)
  go true r = omega arith
  go false r = omega arith

length_after : (s : List ℕ) → length (after_tab s) ≤ length s
unfolding after_tab
length_after [] = omega arith
length_after (b ∷ s) = go (eqb b 9) (length_after s) where
  go : (t : Bool) → length (after_tab s) ≤ length s → length (cond t s (after_tab s)) ≤ suc (length s)
  go true r = omega arith
  go false r = omega arith

-- ---- the changed lines
by_stop : {A : Type 0} (P : A → Type 0) (f : Entry) (g : Stop → A) (z : A) → ((s : Stop) → P (g s)) → P z → P (if_stop f g z)
by_stop P (entry.Ramp k) g z a b = b
by_stop P (entry.Threshold x) g z a b = b
by_stop P (entry.Stop s) g z a b = a s
by_stop P (entry.Change e) g z a b = b
by_stop P entry.Unread g z a b = b

module _ (d : List ℕ) (e : Recolour) (says : entry_of d ≡ entry.Change e) where
  long_edit : 5 ≤ length d
  long_edit = omega (arith, edit_fields d says, few_fields (drop 5 d), length-drop 5 d)

  -- no longer than the two lines that it is made of
  length_changed : (l : List ℕ) → length (changed_line l d) ≤ length l + length d
  unfolding changed_line
  length_changed l =
      omega (
        arith,
        length-append (to_tab (drop 5 l)) (after_tab (drop 5 d)),
        length_to (drop 5 l),
        length_after (drop 5 d),
        length-drop 5 l,
        length-drop 5 d,
        long_edit,
      )

  length_before : (l : List ℕ) (ls : List (List ℕ)) → length (l ++ 10 ∷ text_of_lines ls) ≡ length l + suc (length (text_of_lines ls))
  length_before l ls = length-append l (10 ∷ text_of_lines ls)

  shorter : (k : ℕ) (ls : List (List ℕ)) → length (text_of_lines (changed_lines k d ls)) ≤ length (text_of_lines ls) + length d
  unfolding text_of_lines changed_lines
  shorter zero [] = omega arith
  shorter (suc k) [] = omega arith
  shorter zero (l ∷ ls) =
      by_stop (λ (ms : List (List ℕ)). length (text_of_lines ms) ≤ length (text_of_lines (l ∷ ls)) + length d) (entry_of l) (λ s. changed_line l d ∷ ls) (l ∷ changed_lines zero d ls)
      (λ s. omega (arith, length_before l ls, length_before (changed_line l d) ls, length_changed l))
      (omega (arith, length_before l ls, length_before l (changed_lines zero d ls), shorter zero ls))
  shorter (suc k) (l ∷ ls) =
      by_stop (λ (ms : List (List ℕ)). length (text_of_lines ms) ≤ length (text_of_lines (l ∷ ls)) + length d) (entry_of l) (λ s. l ∷ changed_lines k d ls) (l ∷ changed_lines (suc k) d ls)
      (λ s. omega (arith, length_before l ls, length_before l (changed_lines k d ls), shorter k ls))
      (omega (arith, length_before l ls, length_before l (changed_lines (suc k) d ls), shorter (suc k) ls))

  -- and as unbroken
  module _ (whole : every in_line d ≡ true) where
    line_whole : (l : List ℕ) → every in_line l ≡ true → every in_line (changed_line l d) ≡ true
    unfolding changed_line every
    line_whole l h = every_both in_line (to_tab (drop 5 l)) (after_tab (drop 5 d)) (every_to in_line (drop 5 l) (every_drop in_line 5 l h)) (every_after in_line (drop 5 d) (every_drop in_line 5 d whole))

    still_unbroken : (k : ℕ) (ls : List (List ℕ)) → unbroken ls ≡ true → unbroken (changed_lines k d ls) ≡ true
    unfolding unbroken changed_lines
    still_unbroken zero [] h = refl
    still_unbroken (suc k) [] h = refl
    still_unbroken zero (l ∷ ls) h =
        let here = both_l (every in_line l) (unbroken ls) h in
        let rest = both_r (every in_line l) (unbroken ls) h in
        by_stop (λ (ms : List (List ℕ)). unbroken ms ≡ true) (entry_of l) (λ s. changed_line l d ∷ ls) (l ∷ changed_lines zero d ls)
        (λ s. rw (line_whole l here, rest)) (rw (here, still_unbroken zero ls rest))
    still_unbroken (suc k) (l ∷ ls) h =
        let here = both_l (every in_line l) (unbroken ls) h in
        let rest = both_r (every in_line l) (unbroken ls) h in
        by_stop (λ (ms : List (List ℕ)). unbroken ms ≡ true) (entry_of l) (λ s. l ∷ changed_lines k d ls) (l ∷ changed_lines (suc k) d ls)
        (λ s. rw (here, still_unbroken k ls rest)) (rw (here, still_unbroken (suc k) ls rest))

-- ---- the texts
unbroken_parts : (ls : List (List ℕ)) (d : List ℕ) → unbroken (ls ++ d ∷ []) ≡ true → (unbroken ls ≡ true) × (every in_line d ≡ true)
unfolding unbroken
unbroken_parts [] d h = (refl, both_l (every in_line d) true h)
unbroken_parts (l ∷ ls) d h =
    let w = unbroken_parts ls d (both_r (every in_line l) (unbroken (ls ++ d ∷ [])) h) in
    (rw (both_l (every in_line l) (unbroken (ls ++ d ∷ [])) h, w.0), w.1)

length_text : (ls : List (List ℕ)) (d : List ℕ) → length (text_of_lines (ls ++ d ∷ [])) ≡ length (text_of_lines ls) + suc (length d)
unfolding text_of_lines
length_text [] d = length-append d (10 ∷ []) ∙ omega arith
length_text (l ∷ ls) d = omega (arith, length-append l (10 ∷ text_of_lines ls), length-append l (10 ∷ text_of_lines (ls ++ d ∷ [])), length_text ls d)

few_bytes : (s : List ℕ) {kind : Kind} {asked : Float} {stops : List Stop} {e : Recolour} → input_of s ≡ input kind asked stops (Some e) → length s ≤ most_bytes
unfolding input_of
few_bytes s {kind} {asked} {stops} {e} i = go (leb (length s) most_bytes) refl i where
  is_read : Input → Bool
  is_read (unread line) = false
  is_read (input k x ss d) = true

  go : (t : Bool) → leb (length s) most_bytes ≡ t → cond t (from_kind (lines s)) (unread 0) ≡ input kind asked stops (Some e) → length s ≤ most_bytes
  go true h i = leb-true (length s) most_bytes h
  go false h i = absurd (true≢false (sym (ap is_read i)))

-- of the lines `body` and the edit's line d: the text with both, and the text with the stop's line changed and without d
pub edited_writing : (body : List (List ℕ)) (d : List ℕ) {kind : Kind} {asked : Float} {stops : List Stop} {e : Recolour}
    → unbroken (body ++ d ∷ []) ≡ true → entry_of d ≡ entry.Change e → input_of (text_of_lines (body ++ d ∷ [])) ≡ input kind asked stops (Some e) → e.stop < length stops
    → SameStopLines (desk_of (text_of_lines (body ++ d ∷ []))) (desk_of (text_of_lines (changed_lines e.stop d body)))
edited_writing body d {kind} {asked} {stops} {e} whole says i h =
    let w = unbroken_parts body d whole in
    edited_lines (text_of_lines (body ++ d ∷ [])) (text_of_lines (changed_lines e.stop d body)) i h
    (record {
      body = body;
      last = d;
      says = says;
      before = lines_back (body ++ d ∷ []) whole;
      after = lines_back (changed_lines e.stop d body) (still_unbroken d e says w.1 e.stop body w.0);
      fits = omega (arith, few_bytes (text_of_lines (body ++ d ∷ [])) i, length_text body d, shorter d e says e.stop body);
    })
