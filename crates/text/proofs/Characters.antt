-- UTF-8, byte after byte; and that ASCII is UTF-8. Assumes nothing.
use Prim.Native.Nat.{ℕ, ◌+◌, ◌≤◌, ◌<◌}
use native.Mathlib.Numerals.{add-one}
use mathlib.Core.Path.{◌≡◌, refl, sym, ap, ◌∙◌}
use mathlib.Core.Bool.{true}
use mathlib.Core.List.{List, [], ◌∷◌}
use lib.ListN.{length, drop, get_or, drop_of_length-le}
use lib.Seq.{drop-cons}
use lib.Dec.{eqb}
use Rattle.float.proofs.Flags.{both_l, both_r}
use Rattle.text.specs.declared.utf8.Due.{Due}
use Rattle.text.specs.Text.{every, ascii}
use Rattle.text.specs.Utf8.{nothing_due, opened, due_after, due_at_end, utf8}

-- ---- the loop: what is left, with what is due so far, ends as the whole
pub due_start : (s : List ℕ) {d : Due} → d ≡ nothing_due → due_at_end d s ≡ due_at_end nothing_due s
due_start s e = ap (λ (d : Due). due_at_end d s) e

module _ (s : List ℕ) (i : ℕ) (d : Due) (inv : due_at_end d (drop i s) ≡ due_at_end nothing_due s) where
  pub due_on : i < length s → {e : Due} → e ≡ due_after d (get_or s i 0) → due_at_end e (drop (i + 1) s) ≡ due_at_end nothing_due s
  unfolding due_at_end
  due_on h q = rw (q, add-one) (sym (ap (due_at_end d) (drop-cons s i 0 h)) ∙ inv)

  pub due_done : length s ≤ i → eqb d.more 0 ≡ utf8 s
  unfolding due_at_end utf8
  due_done h = ap (λ (e : Due). eqb e.more 0) (sym (ap (due_at_end d) (drop_of_length-le s h)) ∙ inv)

-- ---- ASCII
nothing_due_lem : (s : List ℕ) → every ascii s ≡ true → due_at_end nothing_due s ≡ nothing_due
unfolding due_at_end due_after opened every
nothing_due_lem [] h = refl
nothing_due_lem (b ∷ s) h = rw (both_l (ascii b) (every ascii s) h) (nothing_due_lem s (both_r (ascii b) (every ascii s) h))

pub ascii-utf8 : (s : List ℕ) → every ascii s ≡ true → utf8 s ≡ true
unfolding utf8
ascii-utf8 s h = ap (λ (d : Due). eqb d.more 0) (nothing_due_lem s h)
