-- The words of the first line, found along the bytes of the whole text: a blank is skipped, an LF ends the line. Assumes nothing.
use Prim.Native.Nat.{ℕ, ◌+◌, ◌-◌, ◌≤◌, ◌<◌}
use native.Mathlib.Omega.{arith}
use mathlib.Core.Path.{◌≡◌, refl, sym, ap, ap₂, ◌∙◌}
use mathlib.Core.Bool.{Bool, true, false, not, cond, ◌&&◌}
use mathlib.Core.List.{List, [], ◌∷◌}
use lib.ListN.{length, take, drop, length-drop}
use lib.Seq.{drop-drop}
use lib.Dec.{eqb}
use borrow.Author.Tests.{not-true, not-false, eqb-true}
use Rattle.float.proofs.Flags.{both_l, both_r}
use Rattle.text.specs.declared.Class.TheVariants.{NotLf, Blank, NotWhite}
use Rattle.rows.specs.declared.Parting.TheVariants.{Spaces}
use Rattle.text.specs.Text.{white, lines, on_first, at_lf, first_of, in_word, words}
use Rattle.text.specs.Places.{in_class, span, lf_at, next_after}
use Rattle.rows.specs.Rows.{parts_at, row_end}
use Rattle.rows.specs.inner.Steps.{FieldAt}
use Rattle.rows.proofs.Found.{no_field, a_field}
use Rattle.text.proofs.Bytes.{span-le, span_in, no}
use Rattle.text.proofs.Lines.{first, first_of_lem, next_last, next_line}

-- a byte that is not white space is not one that is
not_white : (b c : ℕ) → white b ≡ false → white c ≡ true → eqb b c ≡ false
not_white b c e w = go (eqb b c) refl where
  go : (t : Bool) → eqb b c ≡ t → t ≡ false
  go true f = no (sym w ∙ ap white (sym (eqb-true b c f)) ∙ e)
  go false f = refl

-- LF and CR are white space
lf_white : (b : ℕ) → white b ≡ false → eqb b 10 ≡ false
unfolding white
lf_white b e = not_white b 10 e refl

cr_white : (b : ℕ) → white b ≡ false → eqb b 13 ≡ false
unfolding white
cr_white b e = not_white b 13 e refl

and-false : (t : Bool) → (t && false) ≡ false
and-false true = refl
and-false false = refl

-- a byte of a word is a byte of the line
first_word : (b : ℕ) (s : List ℕ) → white b ≡ false → first (b ∷ s) ≡ b ∷ first s
unfolding first
first_word b s e = rw (lf_white b e, cr_white b e, and-false (at_lf s))

-- ---- blanks
at_lf_lem : (s : List ℕ) → at_lf s ≡ true → first s ≡ []
unfolding at_lf first
at_lf_lem [] f = refl
at_lf_lem (c ∷ s) f = rw f

blank_words : (b : ℕ) (s : List ℕ) → white b ≡ true → eqb b 10 ≡ false → words (first (b ∷ s)) ≡ words (first s)
unfolding first words
blank_words b s w e = rw e (go (at_lf s && eqb b 13) refl) where
  go : (t : Bool) → at_lf s && eqb b 13 ≡ t → words (cond t [] (b ∷ first s)) ≡ words (first s)
  go true f = ap words (sym (at_lf_lem s (both_l (at_lf s) (eqb b 13) f)))
  go false f = rw w

abbrev skip : List ℕ → List ℕ
skip s = drop (span (in_class Blank) s) s

skip_cons : (b : ℕ) (s : List ℕ) → in_class Blank b ≡ true → skip (b ∷ s) ≡ skip s
unfolding span
skip_cons b s e = rw e

skip_stop : (b : ℕ) (s : List ℕ) → in_class Blank b ≡ false → skip (b ∷ s) ≡ b ∷ s
unfolding span
skip_stop b s e = rw e

blank_parts : (b : ℕ) → in_class Blank b ≡ true → (white b ≡ true) × (eqb b 10 ≡ false)
unfolding in_class
blank_parts b e = (both_l (white b) _ e, not-true (eqb b 10) (both_r (white b) _ e))

skip_words : (s : List ℕ) → words (first s) ≡ words (first (skip s))
unfolding span
skip_words [] = refl
skip_words (b ∷ s) = go (skip_words s) (in_class Blank b) refl where
  go : words (first s) ≡ words (first (skip s)) → (t : Bool) → in_class Blank b ≡ t → words (first (b ∷ s)) ≡ words (first (skip (b ∷ s)))
  go ih true e = let h = blank_parts b e in blank_words b s h.0 h.1 ∙ ih ∙ ap (λ (u : List ℕ). words (first u)) (sym (skip_cons b s e))
  go ih false e = ap (λ (u : List ℕ). words (first u)) (sym (skip_stop b s e))

-- ---- the end of the line: nothing, or an LF
blank_or : (b : ℕ) → in_class Blank b ≡ false → white b ≡ true → eqb b 10 ≡ true
unfolding in_class
blank_or b e w = not-false (eqb b 10) (rw w at e)

stops : List ℕ → Type 0
stops [] = Unit {0}
stops (b ∷ u) = in_class Blank b ≡ false

skip_stops : (s : List ℕ) → stops (skip s)
unfolding stops span
skip_stops [] = tt
skip_stops (b ∷ s) = go (skip_stops s) (in_class Blank b) refl where
  go : stops (skip s) → (t : Bool) → in_class Blank b ≡ t → stops (skip (b ∷ s))
  go ih true e = rw (skip_cons b s e) ih
  go ih false e = rw (skip_stop b s e) e

at-end : (u : List ℕ) → stops u → in_word u ≡ false → (first u ≡ []) × (span (in_class NotLf) u ≡ 0)
unfolding stops first in_word span in_class
at-end [] k e = (refl, refl)
at-end (b ∷ u) k e = let f = blank_or b k (not-false (white b) e) in (rw f, rw f)

-- ---- a word
in_first : (s : List ℕ) → in_word (first s) ≡ in_word s
unfolding in_word first
in_first [] = refl
in_first (b ∷ s) = go (white b) refl where
  go : (t : Bool) → white b ≡ t → in_word (first (b ∷ s)) ≡ not t
  go false e = rw (first_word b s e, e)
  go true e = by (eqb b 10) (at_lf s && eqb b 13) where
    by : (t u : Bool) → in_word (cond t [] (cond u [] (b ∷ first s))) ≡ false
    by true u = refl
    by false true = refl
    by false false = rw e

not_in_word : (s : List ℕ) → in_word s ≡ false → span (in_class NotWhite) s ≡ 0
unfolding span in_class in_word
not_in_word [] e = refl
not_in_word (b ∷ s) e = rw e

in_word_lem : (s : List ℕ) → in_word s ≡ true → 0 < span (in_class NotWhite) s
unfolding span in_class in_word
in_word_lem [] e = absurd (let z : ◌≡◌ {A = ℕ} 0 1 = cc in omega arith)
in_word_lem (b ∷ s) e = rw e (omega arith)

words_word : (s : List ℕ) → in_word s ≡ true → words (first s) ≡ take (span (in_class NotWhite) s) s ∷ words (first (drop (span (in_class NotWhite) s) s))
unfolding in_word words span in_class on_first
words_word [] e = absurd (let z : ◌≡◌ {A = ℕ} 0 1 = cc in omega arith)
words_word (b ∷ s) e = ap words (first_word b s (not-true (white b) e)) ∙ go (words_word s) (in_word s) refl where
  go : (in_word s ≡ true → words (first s) ≡ take (span (in_class NotWhite) s) s ∷ words (first (drop (span (in_class NotWhite) s) s))) → (t : Bool) → in_word s ≡ t
      → words (b ∷ first s) ≡ take (span (in_class NotWhite) (b ∷ s)) (b ∷ s) ∷ words (first (drop (span (in_class NotWhite) (b ∷ s)) (b ∷ s)))
  go ih true f = rw (not-true (white b) e, in_first s, f, ih f)
  go ih false f = rw (not-true (white b) e, in_first s, f, not_in_word s f)

-- ---- the LF that ends the line stays the same
blank_not_lf : (b : ℕ) → in_class Blank b ≡ true → in_class NotLf b ≡ true
unfolding in_class
blank_not_lf b e = both_r (white b) (not (eqb b 10)) e

word_not_lf : (b : ℕ) → in_class NotWhite b ≡ true → in_class NotLf b ≡ true
unfolding in_class
word_not_lf b e = rw (lf_white b (not-true (white b) e))

-- ---- what the code finds: blanks up to `at`, then a word up to `end`
module _ (s : List ℕ) (from at end : ℕ) (e : at ≡ from + span (in_class Blank) (drop from s)) (f : end ≡ at + span (in_class NotWhite) (drop at s)) where
  skipped : drop at s ≡ skip (drop from s)
  skipped = ap (λ (i : ℕ). drop i s) e ∙ sym (drop-drop (span (in_class Blank) (drop from s)) from s)

  to_first : (u : List ℕ) → words (first_of (lines u)) ≡ words (first u)
  to_first u = ap words (first_of_lem u)

  dropped : drop end s ≡ drop (span (in_class NotWhite) (drop at s)) (drop at s)
  dropped = ap (λ (i : ℕ). drop i s) f ∙ sym (drop-drop (span (in_class NotWhite) (drop at s)) at s)

  none : end ≤ at → in_word (skip (drop from s)) ≡ false
  none h = go (in_word (skip (drop from s))) refl where
    go : (t : Bool) → in_word (skip (drop from s)) ≡ t → t ≡ false
    go true g = absurd (omega (arith, in_word_lem (drop at s) (ap in_word skipped ∙ g)))
    go false g = refl

  some : at < end → in_word (drop at s) ≡ true
  some h = go (in_word (drop at s)) refl where
    go : (t : Bool) → in_word (drop at s) ≡ t → t ≡ true
    go true g = refl
    go false g = absurd (omega (arith, not_in_word (drop at s) g))

  lf_blanks : lf_at s from ≡ lf_at s at
  lf_blanks =
      let q = span_in (in_class Blank) (in_class NotLf) blank_not_lf (drop from s) in
      let r : span (in_class NotLf) (drop at s) ≡ span (in_class NotLf) (skip (drop from s)) = ap (span (in_class NotLf)) skipped in
      omega arith

  lf_word : lf_at s at ≡ lf_at s end
  lf_word =
      let q = span_in (in_class NotWhite) (in_class NotLf) word_not_lf (drop at s) in
      let r : span (in_class NotLf) (drop end s) ≡ span (in_class NotLf) (drop (span (in_class NotWhite) (drop at s)) (drop at s)) = ap (span (in_class NotLf)) dropped in
      omega arith

  pub word_found : at < end → FieldAt Spaces s from true at end end
  unfolding parts_at row_end
  word_found h =
      let k : end - at ≡ span (in_class NotWhite) (drop at s) = omega arith in
      let w : end ≤ length s = omega (arith, span-le (in_class NotWhite) (drop at s), length-drop at s) in
      a_field Spaces s from at end end (omega arith) w (omega arith) (omega arith)
      (to_first (drop from s) ∙ skip_words (drop from s) ∙ ap (λ (u : List ℕ). words (first u)) (sym skipped) ∙ words_word (drop at s) (some h)
      ∙ ap₂ (λ (i : ℕ) (u : List ℕ). take i (drop at s) ∷ words u) (sym k) (ap first (sym dropped) ∙ sym (first_of_lem (drop end s))))
      (ap (λ (i : ℕ). next_after i (length s)) (lf_blanks ∙ lf_word))

  -- no word: the line ends at `at`
  module _ (h : end ≤ at) where
    ends_here : lf_at s from ≡ at
    ends_here =
        let q = (at-end (skip (drop from s)) (skip_stops (drop from s)) (none h)).1 in
        let r : span (in_class NotLf) (drop at s) ≡ span (in_class NotLf) (skip (drop from s)) = ap (span (in_class NotLf)) skipped in
        omega (arith, lf_blanks)

    no_word : (next : ℕ) → next ≡ next_after at (length s) → FieldAt Spaces s from false at end next
    unfolding parts_at row_end words
    no_word next q =
        no_field Spaces s from at end next
        (to_first (drop from s) ∙ skip_words (drop from s) ∙ ap words (at-end (skip (drop from s)) (skip_stops (drop from s)) (none h)).0)
        (q ∙ ap (λ (i : ℕ). next_after i (length s)) (sym ends_here))

    pub word_line : at < length s → FieldAt Spaces s from false at end (at + 1)
    word_line k = no_word (at + 1) (next_line at (length s) k)

    pub word_end : length s ≤ at → FieldAt Spaces s from false at end at
    word_end k = no_word at (next_last at (length s) k)
