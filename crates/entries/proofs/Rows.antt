-- What a line says, by its word and the row of numbers after it. Assumes nothing.
use Prim.Native.Nat.{ℕ, ◌+◌, ◌-◌, ◌≤◌, ◌<◌}
use native.Mathlib.Omega.{arith}
use mathlib.Core.Path.{◌≡◌, refl, sym, ap, ◌∙◌}
use mathlib.Core.Bool.{true, false}
use mathlib.Core.List.{List, []}
use lib.ListN.{length, take, drop, get_or, length-drop}
use lib.Seq.{length-take-le, get_or-take}
use lib.Ieee.{Float, nan}
use borrow.Author.Tests.{eq-eqb, ne_eqb, le-leb, lt-leb}
use Rattle.std.specs.Prelude.{Option, Some, None}
use Rattle.text.specs.declared.Class.TheVariants.{NotTab}
use Rattle.rows.specs.declared.Notation.TheVariants.{Short}
use Rattle.rows.specs.declared.Parting.TheVariants.{Tabs}
use Rattle.text.specs.Text.{fields, same, starts}
use Rattle.rows.specs.Digits.{digits_with}
use Rattle.text.specs.Places.{in_class, span}
use Rattle.rows.specs.Rows.{Numbers, all, none, numbers, longest, RowAt}
use Rattle.rows.proofs.Fields.{field_last, field_more, parts_in}
use Rattle.rows.proofs.Numbers.{row_is, row_not}
use Rattle.stops.specs.declared.Kind.TheVariants.{Linear, Smoothstep}
use Rattle.entries.specs.Entries.{exactly, to_threshold, threshold_entry, to_stop, stop_entry, index_digits, stop_index_of, to_change, change_entry, edit_entry, stop_tag, threshold_tag, edit_tag, kind_linear, kind_smoothstep, entry_of}
use Rattle.entries.specs.declared.fields.Entry.{Entry}
use Rattle.entries.specs.declared.fields.Entry.TheVariants as entry

-- ---- what a row makes
not_exactly : (k : ℕ) (make : List Float → Entry) (o : Numbers) → ((xs : List Float) → o ≡ all xs → length xs ≡ k → ⊥) → entry.Unread ≡ exactly k make o
unfolding exactly
not_exactly k make none f = refl
not_exactly k make (all xs) f = rw (ne_eqb (length xs) k (f xs refl))

is_exactly : (k : ℕ) (make : List Float → Entry) (xs : List Float) → length xs ≡ k → make xs ≡ exactly k make (all xs)
unfolding exactly
is_exactly k make xs e = rw (eq-eqb (length xs) k e)

module _ (l : List ℕ) (from : ℕ) (h : from ≤ length l) {d : List Float} {n next : ℕ} (w : RowAt Short Tabs l from d n next) where
  abbrev here : Numbers
  here = numbers Short (fields (drop from l))

  other_row : (k : ℕ) → k ≤ longest → (make : List Float → Entry) → (n ≡ k → ⊥) → entry.Unread ≡ exactly k make here
  other_row k b make u = not_exactly k make here (λ xs e. row_not w k b u xs (ap (numbers Short) (parts_in l from h) ∙ e))

  this_row : (k : ℕ) → 0 < k → (make : List Float → Entry) → n ≡ k → make (take k d) ≡ exactly k make here
  this_row k b make e =
      let r = row_is w (omega arith) in
      let f = ap (λ (m : ℕ). take m d) (sym e) in
      ap make f ∙ is_exactly k make (take n d) (r.1 ∙ e) ∙ ap (exactly k make) (sym r.0 ∙ ap (numbers Short) (parts_in l from h))

  -- the first k numbers of d are those of its front
  front : (k i : ℕ) → i < k → get_or (take k d) i nan ≡ get_or d i nan
  front k i z = get_or-take k d i nan z

  pub threshold_not : (n ≡ 1 → ⊥) → entry.Unread ≡ threshold_entry (fields (drop from l))
  unfolding threshold_entry
  threshold_not u = other_row 1 (omega arith) to_threshold u

  pub threshold_is : n ≡ 1 → to_threshold d ≡ threshold_entry (fields (drop from l))
  unfolding threshold_entry
  threshold_is e = ap entry.Threshold (sym (front 1 0 (omega arith))) ∙ this_row 1 (omega arith) to_threshold e

  pub stop_not : (n ≡ 5 → ⊥) → entry.Unread ≡ stop_entry (fields (drop from l))
  unfolding stop_entry
  stop_not u = other_row 5 (omega arith) to_stop u

  pub stop_is : n ≡ 5 → to_stop d ≡ stop_entry (fields (drop from l))
  unfolding stop_entry
  stop_is e =
      sym (rw (front 5 0 (omega arith), front 5 1 (omega arith), front 5 2 (omega arith), front 5 3 (omega arith), front 5 4 (omega arith)))
      ∙ this_row 5 (omega arith) to_stop e

  pub change_not : (k : ℕ) → (n ≡ 4 → ⊥) → entry.Unread ≡ exactly 4 (to_change k) (numbers Short (fields (drop from l)))
  change_not k u = other_row 4 (omega arith) (to_change k) u

  pub change_is : (k : ℕ) → n ≡ 4 → to_change k d ≡ exactly 4 (to_change k) (numbers Short (fields (drop from l)))
  change_is k e =
      sym (rw (front 4 0 (omega arith), front 4 1 (omega arith), front 4 2 (omega arith), front 4 3 (omega arith)))
      ∙ this_row 4 (omega arith) (to_change k) e

-- ---- the index before them
module _ (l : List ℕ) (from end : ℕ) (h : from ≤ length l) (e : end ≡ from + span (in_class NotTab) (drop from l)) where
  abbrev index : List ℕ
  index = take (end - from) (drop from l)

  change_none : (c : Option ℕ) → entry.Unread ≡ change_entry c []
  unfolding change_entry exactly numbers
  change_none None = refl
  change_none (Some k) = refl

  pub edit_alone : length l ≤ end → entry.Unread ≡ edit_entry (fields (drop from l))
  unfolding edit_entry
  edit_alone k = change_none (stop_index_of index) ∙ ap edit_entry (sym (field_last l from end h e k))

  index_long : end < length l → length index ≡ end - from
  index_long k = length-take-le (end - from) (drop from l) (omega (arith, length-drop from l))

  module _ (k : end < length l) where
    by_index : (c : Option ℕ) → stop_index_of index ≡ c → change_entry c (fields (drop (end + 1) l)) ≡ edit_entry (fields (drop from l))
    unfolding edit_entry
    by_index c i = ap (λ (x : Option ℕ). change_entry x (fields (drop (end + 1) l))) (sym i) ∙ ap edit_entry (sym (field_more l from end h e k))

    pub edit_long : index_digits < end - from → entry.Unread ≡ edit_entry (fields (drop from l))
    unfolding stop_index_of change_entry
    edit_long m = by_index None (rw (lt-leb (length index) index_digits (omega (arith, index_long k))))

    module _ (m : end - from ≤ index_digits) where
      short : stop_index_of index ≡ digits_with false index
      unfolding stop_index_of
      short = rw (le-leb (length index) index_digits (omega (arith, index_long k)))

      pub edit_bad : digits_with false index ≡ None → entry.Unread ≡ edit_entry (fields (drop from l))
      unfolding change_entry
      edit_bad b = by_index None (short ∙ b)

      pub edit_row : {x : ℕ} {r : Entry} → digits_with false index ≡ Some x → r ≡ exactly 4 (to_change x) (numbers Short (fields (drop (end + 1) l))) → r ≡ edit_entry (fields (drop from l))
      unfolding change_entry
      edit_row {x} b g = g ∙ by_index (Some x) (short ∙ b)

-- ---- the line
module _ (l : List ℕ) where
  pub says_stop : {r : Entry} → starts stop_tag l ≡ true → r ≡ stop_entry (fields (drop 5 l)) → r ≡ entry_of l
  unfolding entry_of
  says_stop a e = rw a e

  module _ (a : starts stop_tag l ≡ false) where
    pub says_linear : same kind_linear l ≡ true → entry.Ramp Linear ≡ entry_of l
    unfolding entry_of
    says_linear b = rw (a, b)

    module _ (b : same kind_linear l ≡ false) where
      pub says_smoothstep : same kind_smoothstep l ≡ true → entry.Ramp Smoothstep ≡ entry_of l
      unfolding entry_of
      says_smoothstep c = rw (a, b, c)

      module _ (c : same kind_smoothstep l ≡ false) where
        pub says_threshold : {r : Entry} → starts threshold_tag l ≡ true → r ≡ threshold_entry (fields (drop 10 l)) → r ≡ entry_of l
        unfolding entry_of
        says_threshold d e = rw (a, b, c, d) e

        module _ (d : starts threshold_tag l ≡ false) where
          pub says_edit : {r : Entry} → starts edit_tag l ≡ true → r ≡ edit_entry (fields (drop 5 l)) → r ≡ entry_of l
          unfolding entry_of
          says_edit f e = rw (a, b, c, d, f) e

          pub says_nothing : starts edit_tag l ≡ false → entry.Unread ≡ entry_of l
          unfolding entry_of
          says_nothing f = rw (a, b, c, d, f)
