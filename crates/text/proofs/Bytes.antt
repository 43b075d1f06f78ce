-- Laws of bytes one after the other: runs of a class, tests of every byte, marks, starts, trimming. Assumes nothing.
use Prim.Native.Nat.{ℕ, zero, suc, ◌+◌, ◌-◌, ◌≤◌, ◌<◌}
use native.Mathlib.Nat.{zero-add}
use native.Mathlib.Numerals.{add-one}
use native.Mathlib.Omega.{arith}
use mathlib.Core.Path.{◌≡◌, refl, sym, ap, ap₂, ◌∙◌}
use mathlib.Core.Bool.{Bool, true, false, cond, ◌&&◌}
use mathlib.Core.List.{List, [], ◌∷◌, ◌++◌}
use lib.ListN.{length, take, drop, get_or, drop_of_length-le, length-drop}
use lib.Seq.{drop-cons, drop-drop, take_all, length-take-le}
use lib.Dec.{leb, eqb}
use borrow.Author.Tests.{ne_eqb, le-leb, lt-leb}
use Rattle.std.specs.Prelude.{nat_eq}
use Rattle.std.specs.Bool.{MatchBool}
use Rattle.std.specs.List.{starts_with}
use Rattle.std.specs.Str.{IsAscii, IsNotAscii}
use Rattle.std.specs.Cmp.Lexicographic.{pointwise}
use Rattle.std.proofs.lemmas.Bool.Decides.{nat_tests}
use Rattle.float.proofs.Flags.{both_l, both_r}
use Rattle.text.specs.declared.Class.TheVariants.{White}
use Rattle.text.specs.Text.{every, ascii, unmark, white, same, starts, trim_start, trim_end}
use Rattle.text.specs.Places.{in_class, span}

pub no : {X : Type 0} → true ≡ false → X
no e = absurd (let z : ◌≡◌ {A = ℕ} 0 1 = cc in omega arith)

-- a part to the end
pub part_tail : (s : List ℕ) (a : ℕ) → take (length s - a) (drop a s) ≡ drop a s
part_tail s a = take_all (length s - a) (drop a s) (omega (arith, length-drop a s))

-- ---- a run of bytes that pass a test
module _ (p : ℕ → Bool) (s : List ℕ) (i : ℕ) where
  pub span_yes : i < length s → p (get_or s i 0) ≡ true → span p (drop i s) ≡ suc (span p (drop (i + 1) s))
  unfolding span
  span_yes h t = rw (add-one, drop-cons s i 0, t)

  pub span_no : i < length s → p (get_or s i 0) ≡ false → span p (drop i s) ≡ 0
  unfolding span
  span_no h t = rw (drop-cons s i 0, t)

  pub span_none : length s ≤ i → span p (drop i s) ≡ 0
  unfolding span
  span_none h = rw (drop_of_length-le s h)

pub span-le : (p : ℕ → Bool) (s : List ℕ) → span p s ≤ length s
unfolding span
span-le p [] = omega arith
span-le p (b ∷ s) = elim (p b) as (λ t. cond t (suc (span p s)) 0 ≤ suc (length s)) [ true ↦ omega (arith, span-le p s) | false ↦ omega arith ]

-- a run of p lies within one of q, which goes on after it
pub span_in : (p q : ℕ → Bool) → ((b : ℕ) → p b ≡ true → q b ≡ true) → (s : List ℕ) → span q s ≡ span p s + span q (drop (span p s) s)
unfolding span
span_in p q h [] = refl
span_in p q h (b ∷ s) = go (span_in p q h s) (p b) refl where
  go : span q s ≡ span p s + span q (drop (span p s) s) → (t : Bool) → p b ≡ t → span q (b ∷ s) ≡ span p (b ∷ s) + span q (drop (span p (b ∷ s)) (b ∷ s))
  go ih true e = rw (e, h b e) (omega (arith, ih))
  go ih false e = rw e (omega arith)

-- ---- every byte passes a test
module _ (p : ℕ → Bool) (s : List ℕ) (i : ℕ) where
  pub every_step : i < length s → every p (drop i s) ≡ (p (get_or s i 0) && every p (drop (i + 1) s))
  unfolding every
  every_step h = rw (add-one, drop-cons s i 0)

  pub every_none : length s ≤ i → every p (drop i s) ≡ true
  unfolding every
  every_none h = rw (drop_of_length-le s h)

pub every_both : (p : ℕ → Bool) (xs ys : List ℕ) → every p xs ≡ true → every p ys ≡ true → every p (xs ++ ys) ≡ true
unfolding every
every_both p [] ys h k = k
every_both p (x ∷ xs) ys h k = rw (both_l (p x) (every p xs) h, every_both p xs ys (both_r (p x) (every p xs) h) k)

pub every_drop : (p : ℕ → Bool) (n : ℕ) (s : List ℕ) → every p s ≡ true → every p (drop n s) ≡ true
unfolding every
every_drop p zero s h = h
every_drop p (suc n) [] h = refl
every_drop p (suc n) (b ∷ s) h = every_drop p n s (both_r (p b) (every p s) h)

-- what a slice tells of itself
pub ascii_told : (s : List ℕ) (t : Bool) → MatchBool t (IsAscii s) (IsNotAscii s) → t ≡ every ascii s
unfolding every
ascii_told s true h = sym (all s h) where
  all : (s : List ℕ) → IsAscii s → every ascii s ≡ true
  all [] h = refl
  all (b ∷ s) h = let l : b < 128 = h 0 in rw (le-leb b 127 (omega arith)) (all s (λ i. h (suc i)))
ascii_told s false h = sym (some s h.0 h.1) where
  some : (s : List ℕ) (i : ℕ) → 128 ≤ get_or s i 0 → every ascii s ≡ false
  some [] i h = absurd (omega arith)
  some (b ∷ s) zero h = rw (lt-leb b 127 (omega arith))
  some (b ∷ s) (suc i) h = rw (some s i h) (and-false (leb b 127)) where
    and-false : (t : Bool) → (t && false) ≡ false
    and-false true = refl
    and-false false = refl

-- ---- starts, and the same
pub starts_is : (p s : List ℕ) → starts_with nat_eq s p ≡ starts p s
unfolding starts
starts_is [] s = refl
starts_is (a ∷ p) [] = refl
starts_is (a ∷ p) (b ∷ s) = ap₂ ◌&&◌ (eqb_sym a b) (starts_is p s) where
  eqb_sym : (a b : ℕ) → eqb a b ≡ eqb b a
  eqb_sym a b = grind (arith, nat_tests)

pub same_is : (p s : List ℕ) → pointwise nat_eq s p ≡ same p s
unfolding same
same_is [] [] = refl
same_is [] (b ∷ s) = refl
same_is (a ∷ p) [] = refl
same_is (a ∷ p) (b ∷ s) = ap (λ (t : Bool). eqb b a && t) (same_is p s)

pub starts_long : (p s : List ℕ) → starts p s ≡ true → length p ≤ length s
unfolding starts
starts_long [] s h = omega arith
starts_long (a ∷ p) [] h = absurd (let z : ◌≡◌ {A = ℕ} 0 1 = cc in omega arith)
starts_long (a ∷ p) (b ∷ s) h = omega (arith, starts_long p s (both_r (eqb b a) (starts p s) h))

-- ---- trimming
trim_start_lem : (s : List ℕ) → drop (span white s) s ≡ trim_start s
unfolding span trim_start
trim_start_lem [] = refl
trim_start_lem (b ∷ s) = elim (white b) as (λ t. drop (cond t (suc (span white s)) 0) (b ∷ s) ≡ cond t (trim_start s) (b ∷ s)) [ true ↦ trim_start_lem s | false ↦ refl ]

-- white space from the front of s ends at n
pub trim_from : (s : List ℕ) (n : ℕ) → n ≡ 0 + span (in_class White) (drop 0 s) → drop n s ≡ trim_start s
unfolding in_class
trim_from s n e = ap (λ (i : ℕ). drop i s) (e ∙ zero-add _) ∙ trim_start_lem s

-- white space from r on, and none just before it
pub trim_at : (s : List ℕ) (r : ℕ) → r ≤ length s → ((n : ℕ) → r ≡ n + 1 → white (get_or s n 0) ≡ false) → ((k : ℕ) → r ≤ k → k < length s → white (get_or s k 0) ≡ true) → take r s ≡ trim_end s
unfolding trim_end
trim_at [] zero h last after = refl
trim_at [] (suc r) h last after = absurd (omega arith)
trim_at (b ∷ s) zero h last after = rw (← trim_at s zero (omega arith) (λ n e. absurd (omega arith)) (λ k i j. after (suc k) (omega arith) (omega arith)), after 0 (omega arith) (omega arith))
trim_at (b ∷ s) (suc r) h last after =
    rw (← trim_at s r (omega arith) (λ n e. last (suc n) (omega arith)) (λ k i j. after (suc k) (omega arith) (omega arith))) (go r (white b) (last 0) (length-take-le r s (omega arith))) where
      go : (r : ℕ) (t : Bool) → (suc r ≡ 0 + 1 → t ≡ false) → length (take r s) ≡ r → b ∷ take r s ≡ cond (t && eqb (length (take r s)) 0) [] (b ∷ take r s)
      go zero t f l = rw (f refl)
      go (suc r) true f l = rw (ne_eqb (length (take (suc r) s)) 0 (omega arith))
      go (suc r) false f l = refl

-- ---- marks
abbrev pub mark : List ℕ
mark = 0xEF ∷ 0xBB ∷ 0xBF ∷ []

unmark_by : (l : List ℕ) → unmark l ≡ cond (starts mark l) (unmark (drop 3 l)) l
unfolding unmark starts
unmark_by [] = refl
unmark_by (a ∷ []) = go (eqb a 0xEF) where
  go : (t : Bool) → a ∷ [] ≡ cond (t && false) (unmark []) (a ∷ [])
  go true = refl
  go false = refl
unmark_by (a ∷ b ∷ []) = go (eqb a 0xEF) (eqb b 0xBB) where
  go : (t u : Bool) → a ∷ b ∷ [] ≡ cond (t && (u && false)) (unmark []) (a ∷ b ∷ [])
  go true true = refl
  go true false = refl
  go false u = refl
unmark_by (a ∷ b ∷ c ∷ s) = go (eqb a 0xEF) (eqb b 0xBB) (eqb c 0xBF) where
  go : (t u v : Bool) → cond (t && (u && v)) (unmark s) (a ∷ b ∷ c ∷ s) ≡ cond (t && (u && (v && true))) (unmark s) (a ∷ b ∷ c ∷ s)
  go true true true = refl
  go true true false = refl
  go true false v = refl
  go false u v = refl

-- of what is left from i on, as the code lends it
module _ (s : List ℕ) (i : ℕ) {t : Bool} (told : t ≡ starts mark (take (length s - i) (drop i s))) where
  starts_at : starts mark (drop i s) ≡ t
  starts_at = sym (told ∙ ap (starts mark) (part_tail s i))

  pub marks_no : t ≡ false → unmark (drop i s) ≡ drop i s
  marks_no e = unmark_by (drop i s) ∙ rw (starts_at, e)

  pub marks_yes : t ≡ true → unmark (drop i s) ≡ unmark (drop (i + 3) s)
  marks_yes e = unmark_by (drop i s) ∙ rw (starts_at, e, drop-drop 3 i s)

  pub marks_room : t ≡ true → 3 ≤ length s - i
  marks_room e = omega (arith, starts_long mark (drop i s) (starts_at ∙ e), length-drop i s)
