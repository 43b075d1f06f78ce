-- Laws of refusal 20: the words of a record beside a call's own, one after the other. Assumes nothing.
use mathlib.Core.Path.{◌≡◌, refl, ap, ap₂}
use mathlib.Core.Bool.{Bool, true, false, cond, ◌&&◌}
use mathlib.Core.List.{List, [], ◌∷◌}
use mathlib.Core.Logic.{◌⊎◌, inl, inr}
use Prim.Native.Nat.{ℕ}
use native.Mathlib.Omega.{arith}
use borrow.Author.Tests.{eq-eqb, eqb-true}
use lib.Dec.{eqb}
use lib.Pointwise.{pointwise}
use Rattle.refusals.specs.Refusals.{other_threshold}
use Rattle.float.proofs.Flags.{both_l, both_r}
use Rattle.stops.specs.declared.Checked.TheVariants as checked
use Rattle.records.specs.Fitness.{same_words, marks_check}

-- ---- any words
no_true : false ≡ true → ⊥
no_true z = let n : ◌≡◌ {A = ℕ} 0 1 = ap (λ (b : Bool). cond b 1 0) z in omega (arith, n)

words_equal : (vs ws : List ℕ) → same_words vs ws ≡ true → vs ≡ ws
unfolding same_words
words_equal [] [] h = refl
words_equal [] (w ∷ ws) h = absurd (no_true h)
words_equal (v ∷ vs) [] h = absurd (no_true h)
words_equal (v ∷ vs) (w ∷ ws) h =
    ap₂ ◌∷◌ (eqb-true v w (both_l (eqb v w) (same_words vs ws) h)) (words_equal vs ws (both_r (eqb v w) (same_words vs ws) h))

words_same : (ws : List ℕ) → same_words ws ws ≡ true
unfolding same_words
words_same [] = refl
words_same (w ∷ ws) = rw (eq-eqb w w refl) (words_same ws)

-- a record passes exactly with its own words; else it is 20
pub marks_pass : (own marks : List ℕ) → marks ≡ own → marks_check own marks ≡ checked.Fine
unfolding marks_check
marks_pass own marks e = rw (e, words_same own)

pub marks_either : (own marks : List ℕ) → (marks_check own marks ≡ checked.Fine) ⊎ (marks_check own marks ≡ checked.Refused other_threshold)
unfolding marks_check
marks_either own marks = go (same_words marks own)
  where
    go : (b : Bool) → (cond b checked.Fine (checked.Refused other_threshold) ≡ checked.Fine) ⊎ (cond b checked.Fine (checked.Refused other_threshold) ≡ checked.Refused other_threshold)
    go true = inl refl
    go false = inr refl

pub marks_equal : (own marks : List ℕ) → marks_check own marks ≡ checked.Fine → marks ≡ own
unfolding marks_check
marks_equal own marks h = words_equal marks own (go (same_words marks own) h)
  where
    go : (b : Bool) → cond b checked.Fine (checked.Refused other_threshold) ≡ checked.Fine → b ≡ true
    go true k = refl
    go false k = let z : ◌≡◌ {A = ℕ} 0 1 = cc in absurd (omega arith)

-- ---- words compared as two slices are
words_are : (vs ws : List ℕ) → pointwise eqb vs ws ≡ same_words vs ws
unfolding same_words
words_are [] [] = refl
words_are [] (w ∷ ws) = refl
words_are (v ∷ vs) [] = refl
words_are (v ∷ vs) (w ∷ ws) = ap (λ (b : Bool). eqb v w && b) (words_are vs ws)

pub marks_is : (own words marks : List ℕ) {q r : Bool} → words ≡ own → q ≡ pointwise eqb marks words → q ≡ r
    → cond r checked.Fine (checked.Refused other_threshold) ≡ marks_check own marks
unfolding marks_check
marks_is own words marks e h k = rw (← k, h, e, words_are marks own)
