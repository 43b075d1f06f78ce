-- The first field, and the fields after it. Assumes nothing.
use Prim.Native.Nat.{ℕ, suc, ◌+◌, ◌-◌, ◌≤◌, ◌<◌}
use native.Mathlib.Omega.{arith}
use mathlib.Core.Path.{◌≡◌, refl, sym, ap, ◌∙◌}
use mathlib.Core.Bool.{Bool, true, false, not, cond}
use mathlib.Core.List.{List, [], ◌∷◌, ◌++◌}
use lib.ListN.{length, take, drop, length-drop}
use lib.Seq.{take_all, drop-drop}
use lib.Dec.{ltb, eqb}
use borrow.Author.Tests.{lt-ltb, le-ltb, ltb-true, ltb-false}
use Rattle.float.proofs.Flags.{both_l, both_r}
use Rattle.text.specs.declared.Class.TheVariants.{NotTab}
use Rattle.rows.specs.declared.Parting.TheVariants.{Tabs}
use Rattle.text.specs.Text.{every, not_tab, on_first, fields}
use Rattle.text.specs.Places.{in_class, span}
use Rattle.rows.specs.Rows.{parts_at, row_end}
use Rattle.rows.specs.inner.Steps.{FieldAt}
use Rattle.rows.proofs.Found.{no_field, a_field}
use Rattle.text.proofs.Bytes.{span-le}

fields_last : (s : List ℕ) → length s ≤ span (in_class NotTab) s → fields s ≡ s ∷ []
unfolding fields span on_first in_class
fields_last [] h = refl
fields_last (b ∷ s) h = go (fields_last s) (not_tab b) refl where
  go : (length s ≤ span (in_class NotTab) s → fields s ≡ s ∷ []) → (t : Bool) → not_tab b ≡ t → fields (b ∷ s) ≡ (b ∷ s) ∷ []
  go ih true e = rw (e, ih (omega (arith, rw e at h)))
  go ih false e = absurd (omega (arith, rw e at h))

fields_more : (s : List ℕ) → span (in_class NotTab) s < length s → fields s ≡ take (span (in_class NotTab) s) s ∷ fields (drop (suc (span (in_class NotTab) s)) s)
unfolding fields span on_first in_class
fields_more [] h = absurd (omega arith)
fields_more (b ∷ s) h = go (fields_more s) (not_tab b) refl where
  go : (span (in_class NotTab) s < length s → fields s ≡ take (span (in_class NotTab) s) s ∷ fields (drop (suc (span (in_class NotTab) s)) s)) → (t : Bool) → not_tab b ≡ t → fields (b ∷ s) ≡ take (span (in_class NotTab) (b ∷ s)) (b ∷ s) ∷ fields (drop (suc (span (in_class NotTab) (b ∷ s))) (b ∷ s))
  go ih true e = rw (e, ih (omega (arith, rw e at h)))
  go ih false e = rw e

module _ (l : List ℕ) (from end : ℕ) (h : from ≤ length l) (e : end ≡ from + span (in_class NotTab) (drop from l)) where
  size : end - from ≡ span (in_class NotTab) (drop from l)
  size = omega arith

  pub field_within : end ≤ length l
  field_within = omega (arith, span-le (in_class NotTab) (drop from l), length-drop from l)

  pub field_last : length l ≤ end → fields (drop from l) ≡ take (end - from) (drop from l) ∷ []
  field_last k =
      let n = length-drop from l in
      fields_last (drop from l) (omega arith) ∙ ap (λ (f : List ℕ). f ∷ []) (sym (take_all (end - from) (drop from l) (omega arith)))

  pub field_more : end < length l → fields (drop from l) ≡ take (end - from) (drop from l) ∷ fields (drop (end + 1) l)
  field_more k =
      let n = length-drop from l in
      let m : from + suc (end - from) ≡ end + 1 = omega arith in
      fields_more (drop from l) (omega arith)
      ∙ ap (λ (i : ℕ). take i (drop from l) ∷ fields (drop (suc i) (drop from l))) (sym size)
      ∙ ap (λ (s : List ℕ). take (end - from) (drop from l) ∷ fields s) (drop-drop (suc (end - from)) from l ∙ ap (λ (i : ℕ). drop i l) m)

-- a field, its tab, and more
pub fields_past : (xs t : List ℕ) → every not_tab xs ≡ true → fields (xs ++ 9 ∷ t) ≡ xs ∷ fields t
unfolding fields every on_first
fields_past [] t h = refl
fields_past (x ∷ xs) t h = rw (both_l (not_tab x) (every not_tab xs) h, fields_past xs t (both_r (not_tab x) (every not_tab xs) h))

-- how many there are
on_length : (b : ℕ) (fs : List (List ℕ)) → length (on_first b fs) ≤ suc (length fs)
unfolding on_first
on_length b [] = omega arith
on_length b (f ∷ fs) = omega arith

pub few_fields : (s : List ℕ) → length (fields s) ≤ suc (length s)
unfolding fields
few_fields [] = omega arith
few_fields (b ∷ s) = go (not (eqb b 9)) (fields s) (few_fields s) where
  go : (t : Bool) (fs : List (List ℕ)) → length fs ≤ suc (length s) → length (cond t (on_first b fs) ([] ∷ fs)) ≤ suc (suc (length s))
  go true fs r = omega (arith, on_length b fs)
  go false fs r = omega arith

-- ---- what the code finds
module _ (s : List ℕ) (from : ℕ) where
  pub parts_in : from ≤ length s → parts_at Tabs s from ≡ fields (drop from s)
  unfolding parts_at
  parts_in h = rw (le-ltb (length s) from h)

  parts_out : length s < from → parts_at Tabs s from ≡ []
  unfolding parts_at
  parts_out h = rw (lt-ltb (length s) from h)

  end_in : from ≤ length s → row_end Tabs s from ≡ length s + 1
  unfolding row_end
  end_in h = rw (le-ltb (length s) from h)

  end_out : length s < from → row_end Tabs s from ≡ from
  unfolding row_end
  end_out h = rw (lt-ltb (length s) from h)

  pub tabbed_none : length s < from → FieldAt Tabs s from false from from from
  tabbed_none h = no_field Tabs s from from from from (parts_out h) (sym (end_out h))

pub tabbed_found : (s : List ℕ) (from end : ℕ) → from ≤ length s → end ≡ from + span (in_class NotTab) (drop from s) → FieldAt Tabs s from true from end (end + 1)
tabbed_found s from end h e =
    let w : end ≤ length s = field_within s from end h e in
    a_field Tabs s from from end (end + 1) (omega arith) w (omega arith) (omega arith)
    (parts_in s from h ∙ rest (ltb end (length s)) refl)
    (end_in s from h ∙ sym (after (ltb end (length s)) refl))
  where
    rest : (t : Bool) → ltb end (length s) ≡ t → fields (drop from s) ≡ take (end - from) (drop from s) ∷ parts_at Tabs s (end + 1)
    rest true k = let l = ltb-true end (length s) k in field_more s from end h e l ∙ ap (λ (fs : List (List ℕ)). take (end - from) (drop from s) ∷ fs) (sym (parts_in s (end + 1) (omega arith)))
    rest false k = let l = ltb-false end (length s) k in field_last s from end h e (omega arith) ∙ ap (λ (fs : List (List ℕ)). take (end - from) (drop from s) ∷ fs) (sym (parts_out s (end + 1) (omega arith)))

    after : (t : Bool) → ltb end (length s) ≡ t → row_end Tabs s (end + 1) ≡ length s + 1
    after true k = let l = ltb-true end (length s) k in end_in s (end + 1) (omega arith)
    after false k = let l = ltb-false end (length s) k in end_out s (end + 1) (omega arith) ∙ omega (arith, field_within s from end h e)
