-- Laws of a run of stores, and of lists put one after the other. Assumes nothing.
use mathlib.Core.Path.{◌≡◌, refl, sym, ap, ◌∙◌}
use mathlib.Core.List.{List, [], ◌∷◌, ◌++◌, append_assoc, append-nil}
use Prim.Native.Nat.{ℕ, zero, suc, ◌+◌, ◌-◌, ◌≤◌, ◌<◌}
use native.Mathlib.Nat.{add-zero, add-suc, suc-add, le_of_suc-le-suc}
use native.Mathlib.Numerals.{add-one}
use native.Mathlib.Omega.{arith}
use lib.ListN.{length, set, take, drop, replicate, length-append, length-drop, drop_of_length-le, take-append-drop}
use lib.Seq.{sets, sets-eq, set_out, take_at, drop-drop, drop-append-add}

module _ {A : Type 0} where
  pub sets-append : (l : List A) (i : ℕ) (xs ys : List A) → sets l i (xs ++ ys) ≡ sets (sets l i xs) (i + length xs) ys
  sets-append l i [] ys = rw add-zero
  sets-append l i (x ∷ xs) ys = sets-append (set l i x) (suc i) xs ys ∙ rw (add-suc, suc-add)

  -- as many stores as there are places
  pub sets_all : (l vs : List A) → length vs ≡ length l → sets l 0 vs ≡ vs
  sets_all l vs e =
      sets-eq vs l 0 (omega arith) ∙ ap (λ (r : List A). vs ++ r) (drop_of_length-le l {i = 0 + length vs} (omega arith)) ∙ append-nil vs

  -- stores that go on where a list ends
  pub sets_next : (pre vs l : List A) (p q : ℕ) → length pre ≡ p → p + length vs ≡ q → q ≤ length l
      → sets (pre ++ drop p l) p vs ≡ (pre ++ vs) ++ drop q l
  sets_next pre vs l p q e f h =
      sets-eq vs (pre ++ drop p l) p (omega (arith, length-append pre (drop p l), length-drop p l))
      ∙ rw (take_at pre (drop p l) p e, ← e, drop-append-add, e, drop-drop, f)

  -- a part left as it was
  pub keep_next : (pre vs l : List A) (p q k : ℕ) → vs ≡ take k (drop p l) → p + k ≡ q
      → pre ++ drop p l ≡ (pre ++ vs) ++ drop q l
  keep_next pre vs l p q k e f = rw (append_assoc, e, ← f, ← drop-drop, take-append-drop)

  -- a part that was lent and has come back is a run of stores
  pub part_sets : (l vs : List A) (a e : ℕ) → a ≤ e → e ≤ length l → length vs ≡ e - a
      → take a l ++ (vs ++ drop (e - a) (drop a l)) ≡ sets l a vs
  part_sets l vs a e h k f = rw (drop-drop, ← f, ← append_assoc) (sym (sets-eq vs l a (omega arith)))

  -- stores past the end are none
  pub sets_out : (l : List A) (i : ℕ) (vs : List A) → length l ≤ i → sets l i vs ≡ l
  sets_out l i [] h = refl
  sets_out l i (v ∷ vs) h = ap (λ (k : List A). sets k (suc i) vs) (set_out l i v h) ∙ sets_out l (suc i) vs (omega arith)

-- ---- a fill from the front
module _ {A : Type 0} (v : A) where
  fill_suc : (n : ℕ) (d : List A) → n < length d → set (replicate n v ++ drop n d) n v ≡ replicate (suc n) v ++ drop (suc n) d
  fill_suc n [] l = absurd (omega arith)
  fill_suc zero (x ∷ d) l = refl
  fill_suc (suc n) (x ∷ d) l = ap (λ (t : List A). v ∷ t) (fill_suc n d (le_of_suc-le-suc l))

  pub fill_more : (n : ℕ) (d e : List A) → n < length d → e ≡ replicate n v ++ drop n d → set e n v ≡ replicate (n + 1) v ++ drop (n + 1) d
  fill_more n d e l q = ap (λ (x : List A). set x n v) q ∙ fill_suc n d l ∙ ap (λ (k : ℕ). replicate k v ++ drop k d) (sym (add-one n))

  pub fill_all : (n : ℕ) (d e : List A) → n ≡ length d → e ≡ replicate n v ++ drop n d → e ≡ replicate (length d) v
  fill_all n d e h q = q ∙ let z : length d ≤ n = omega arith in rw (drop_of_length-le d z) (append-nil (replicate n v) ∙ ap (λ (k : ℕ). replicate k v) h)
