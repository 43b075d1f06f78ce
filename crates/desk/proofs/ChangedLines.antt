-- The lines of a text with the line of a stop changed and the `edit` line left out are read as the changed stops and no edit. Assumes nothing.
use Prim.Native.Nat.{ℕ, suc, ◌<◌}
use native.Mathlib.Omega.{arith}
use mathlib.Core.Path.{◌≡◌, refl, sym, ap, ap₂, ◌∙◌}
use mathlib.Core.Bool.{Bool, true, false, cond, true≢false}
use mathlib.Core.List.{List, [], ◌∷◌, ◌++◌}
use lib.ListN.{length, drop, get_or}
use lib.Dec.{eqb}
use lib.Ieee.{Float, nan}
use borrow.Author.Tests.{eq-eqb, eqb-true}
use Rattle.std.specs.Prelude.{Option, Some, None}
use Rattle.decimal.specs.declared.Token.TheVariants.{Number}
use Rattle.blend.specs.declared.Rgba.{Rgba}
use Rattle.blend.specs.declared.Stop.{Stop}
use Rattle.stops.specs.declared.Kind.TheVariants.{Linear, Smoothstep}
use Rattle.text.specs.Text.{first_of, rest_of, same, starts, fields}
use Rattle.rows.specs.declared.Notation.TheVariants.{Short}
use Rattle.rows.specs.Rows.{Numbers, all, none, add_number, numbers}
use Rattle.entries.specs.Entries.{exactly, channels_at, to_threshold, threshold_entry, to_stop, stop_entry, stop_index_of, to_change, change_entry, edit_entry, stop_tag, threshold_tag, edit_tag, kind_linear, kind_smoothstep, entry_of}
use Rattle.desk.specs.Recoloured.{to_tab, after_tab, changed_line}
use Rattle.entries.specs.declared.fields.Recolour.{Recolour}
use Rattle.entries.specs.declared.fields.Entry.{Entry}
use Rattle.entries.specs.declared.fields.Entry.TheVariants as entry
use Rattle.rows.proofs.Read.{numbers_long, head_number}
use Rattle.desk.proofs.Parted.{fields_to, fields_after}

-- ---- which form an entry has
abbrev is_stop : Entry → Bool
is_stop (entry.Ramp k) = false
is_stop (entry.Threshold x) = false
is_stop (entry.Stop s) = true
is_stop (entry.Change e) = false
is_stop entry.Unread = false

abbrev is_change : Entry → Bool
is_change (entry.Ramp k) = false
is_change (entry.Threshold x) = false
is_change (entry.Stop s) = false
is_change (entry.Change e) = true
is_change entry.Unread = false

module _ (p : Entry → Bool) where
  -- of two, the one that can have the form
  either_not : (t : Bool) (x y : Entry) → p x ≡ false → p y ≡ false → p (cond t x y) ≡ false
  either_not true x y h k = h
  either_not false x y h k = k

  the_first : (t : Bool) (x y : Entry) {z : Entry} → p y ≡ false → p z ≡ true → cond t x y ≡ z → x ≡ z
  the_first true x y h k e = e
  the_first false x y h k e = absurd (true≢false (sym k ∙ ap p (sym e) ∙ h))

  the_other : (t : Bool) (x y : Entry) {z : Entry} → p x ≡ false → p z ≡ true → cond t x y ≡ z → y ≡ z
  the_other true x y h k e = absurd (true≢false (sym k ∙ ap p (sym e) ∙ h))
  the_other false x y h k e = e

  exactly_not : (n : ℕ) (make : List Float → Entry) (ns : Numbers) → p entry.Unread ≡ false → ((xs : List Float) → p (make xs) ≡ false) → p (exactly n make ns) ≡ false
  unfolding exactly
  exactly_not n make none u f = u
  exactly_not n make (all xs) u f = either_not (eqb (length xs) n) (make xs) entry.Unread (f xs) u

-- n numbers were there
record Made (n : ℕ) (make : List Float → Entry) (ns : Numbers) (z : Entry) : Type 0 where
  pub xs : List Float
  pub is : ns ≡ all xs
  pub long : length xs ≡ n
  pub made : make xs ≡ z

made_of : (p : Entry → Bool) (n : ℕ) (make : List Float → Entry) (ns : Numbers) {z : Entry} → p entry.Unread ≡ false → p z ≡ true → exactly n make ns ≡ z → Made n make ns z
unfolding exactly
made_of p n make none u k e = absurd (true≢false (sym k ∙ ap p (sym e) ∙ u))
made_of p n make (all xs) {z} u k e = go (eqb (length xs) n) refl e where
  go : (t : Bool) → eqb (length xs) n ≡ t → cond t (make xs) entry.Unread ≡ z → Made n make (all xs) z
  go true h e = record { xs = xs; is = refl; long = eqb-true (length xs) n h; made = e }
  go false h e = absurd (true≢false (sym k ∙ ap p (sym e) ∙ u))

threshold_not : (p : Entry → Bool) → p entry.Unread ≡ false → ((x : Float) → p (entry.Threshold x) ≡ false) → (fs : List (List ℕ)) → p (threshold_entry fs) ≡ false
unfolding threshold_entry
threshold_not p u f fs = exactly_not p 1 to_threshold (numbers Short fs) u (λ xs. f (get_or xs 0 nan))

edit_not_stop : (fs : List (List ℕ)) → is_stop (edit_entry fs) ≡ false
unfolding edit_entry change_entry
edit_not_stop [] = refl
edit_not_stop (f ∷ fs) = go (stop_index_of f) where
  go : (c : Option ℕ) → is_stop (change_entry c fs) ≡ false
  go None = refl
  go (Some k) = exactly_not is_stop 4 (to_change k) (numbers Short fs) refl (λ xs. refl)

stop_not_change : (fs : List (List ℕ)) → is_change (stop_entry fs) ≡ false
unfolding stop_entry
stop_not_change fs = exactly_not is_change 5 to_stop (numbers Short fs) refl (λ xs. refl)

-- a line that says a stop, and one that says an edit
stop_line : (l : List ℕ) {s : Stop} → entry_of l ≡ entry.Stop s → stop_entry (fields (drop 5 l)) ≡ entry.Stop s
unfolding entry_of
stop_line l e =
    let four = threshold_not is_stop refl (λ x. refl) (fields (drop 10 l)) in
    let five = edit_not_stop (fields (drop 5 l)) in
    the_first is_stop (starts stop_tag l) (stop_entry (fields (drop 5 l))) _
    (either_not is_stop (same kind_linear l) (entry.Ramp Linear) _ refl
    (either_not is_stop (same kind_smoothstep l) (entry.Ramp Smoothstep) _ refl
    (either_not is_stop (starts threshold_tag l) (threshold_entry (fields (drop 10 l))) _ four
    (either_not is_stop (starts edit_tag l) (edit_entry (fields (drop 5 l))) entry.Unread five refl))))
    refl e

edit_line : (l : List ℕ) {e : Recolour} → entry_of l ≡ entry.Change e → edit_entry (fields (drop 5 l)) ≡ entry.Change e
unfolding entry_of
edit_line l h =
    the_first is_change (starts edit_tag l) (edit_entry (fields (drop 5 l))) entry.Unread refl refl
    (the_other is_change (starts threshold_tag l) (threshold_entry (fields (drop 10 l))) _ (threshold_not is_change refl (λ x. refl) (fields (drop 10 l))) refl
    (the_other is_change (same kind_smoothstep l) (entry.Ramp Smoothstep) _ refl refl
    (the_other is_change (same kind_linear l) (entry.Ramp Linear) _ refl refl
    (the_other is_change (starts stop_tag l) (stop_entry (fields (drop 5 l))) _ (stop_not_change (fields (drop 5 l))) refl h))))

-- the four numbers after an index
record Channels (fs : List (List ℕ)) (c : Rgba) : Type 0 where
  pub ys : List Float
  pub is : numbers Short (rest_of fs) ≡ all ys
  pub long : length ys ≡ 4
  pub many : 1 < length fs
  pub colour : channels_at ys 0 ≡ c

abbrev colour_in : Rgba → Entry → Rgba
colour_in d (entry.Ramp k) = d
colour_in d (entry.Threshold x) = d
colour_in d (entry.Stop s) = s.colour
colour_in d (entry.Change e) = e.colour
colour_in d entry.Unread = d

abbrev position_in : Float → Entry → Float
position_in d (entry.Ramp k) = d
position_in d (entry.Threshold x) = d
position_in d (entry.Stop s) = s.position
position_in d (entry.Change e) = d
position_in d entry.Unread = d

channels_of : (fs : List (List ℕ)) {e : Recolour} → edit_entry fs ≡ entry.Change e → Channels fs e.colour
unfolding edit_entry change_entry rest_of
channels_of [] h = absurd (true≢false (sym (ap is_change h)))
channels_of (f ∷ fs) {e} h = go (stop_index_of f) h where
  go : (c : Option ℕ) → change_entry c fs ≡ entry.Change e → Channels (f ∷ fs) e.colour
  go None h = absurd (true≢false (sym (ap is_change h)))
  go (Some k) h =
      let m = made_of is_change 4 (to_change k) (numbers Short fs) refl refl h in
      record { ys = m.xs; is = m.is; long = m.long; many = omega (arith, numbers_long Short fs m.xs m.is, m.long); colour = ap (colour_in e.colour) m.made }

number_all : (x : Float) (ys : List Float) → add_number (Number x) (all ys) ≡ all (x ∷ ys)
unfolding add_number
number_all x ys = refl

pub edit_fields : (d : List ℕ) {e : Recolour} → entry_of d ≡ entry.Change e → 1 < length (fields (drop 5 d))
edit_fields d h = (channels_of (fields (drop 5 d)) (edit_line d h)).many

five_numbers : (x : Float) (ys : List Float) → length ys ≡ 4 → exactly 5 to_stop (all (x ∷ ys)) ≡ entry.Stop (record { position = x; colour = channels_at ys 0 })
unfolding exactly
five_numbers x ys h = rw (eq-eqb (suc (length ys)) 5 (omega arith))

-- the changed line says the stop with the other colour
pub changed_entry : (l d : List ℕ) {s : Stop} {e : Recolour} → entry_of l ≡ entry.Stop s → entry_of d ≡ entry.Change e → entry_of (changed_line l d) ≡ entry.Stop (record { position = s.position; colour = e.colour })
unfolding entry_of changed_line starts stop_entry numbers
changed_entry l d {s} {e} h k =
    let fs = fields (drop 5 l) in
    let gs = fields (drop 5 d) in
    let m = made_of is_stop 5 to_stop (numbers Short fs) refl refl (stop_line l h) in
    let c = channels_of gs (edit_line d k) in
    let long = m.long in
    let parts : fields (to_tab (drop 5 l) ++ after_tab (drop 5 d)) ≡ first_of fs ∷ rest_of gs =
    fields_to (drop 5 l) (after_tab (drop 5 d)) (omega (arith, numbers_long Short fs m.xs m.is)) ∙ ap (λ (rest : List (List ℕ)). first_of fs ∷ rest) (fields_after (drop 5 d) c.many) in
    ap stop_entry parts
    ∙ ap (exactly 5 to_stop) (ap₂ add_number (head_number Short fs m.xs m.is (omega arith)) c.is ∙ number_all (get_or m.xs 0 nan) c.ys)
    ∙ five_numbers (get_or m.xs 0 nan) c.ys c.long
    ∙ ap₂ (λ (x : Float) (w : Rgba). entry.Stop (record { position = x; colour = w })) (ap (position_in nan) m.made) c.colour
