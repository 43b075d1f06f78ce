-- The first line of what is printed and the lines after it: those of a list of stops, whatever its number of evaluations. Assumes nothing.
use Prim.Native.Nat.{ℕ, zero, suc, ◌+◌, ◌/◌, ◌%◌, ◌<◌}
use native.Mathlib.Nat.{mod-lt}
use native.Mathlib.Omega.{arith}
use mathlib.Core.Path.{◌≡◌, refl, sym, ap, ◌∙◌}
use mathlib.Core.Bool.{Bool, true, false, not, cond}
use mathlib.Core.List.{List, [], ◌∷◌, ◌++◌}
use lib.ListN.{take, get_or}
use lib.Dec.{ltb, eqb}
use lib.Ieee.{Float}
use borrow.Author.Tests.{ne_eqb, not-true}
use Rattle.float.proofs.Flags.{both_l, both_r}
use Rattle.text.specs.Text.{every, on_first, not_tab, fields}
use Rattle.text.proofs.Bytes.{every_both}
use Rattle.rows.proofs.Fields.{fields_past}
use Rattle.linearize.specs.Desk.{listed_of}
use Rattle.text.specs.Output.{decimal_of, count_text}
use Rattle.writing.specs.Printed.{rows_text, line_text, refused_text, evaluations_word, list_text}
use Rattle.desk.specs.Recoloured.{first_line, after_first, SameStopLines}
use Rattle.desk.specs.Tool.{listed_text}

abbrev not_lf : ℕ → Bool
not_lf b = not (eqb b 10)

-- digits are neither tab nor LF
every_digit : (p : ℕ → Bool) → ((d : ℕ) → d < 10 → p (48 + d) ≡ true) → (left n : ℕ) → every p (decimal_of left n) ≡ true
unfolding decimal_of every
every_digit p f zero n = refl
every_digit p f (suc left) n = go (ltb n 10) (every_digit p f left (n / 10)) (f (n % 10) (mod-lt n (omega arith))) where
  go : (t : Bool) → every p (decimal_of left (n / 10)) ≡ true → p (48 + n % 10) ≡ true → every p (cond t ((48 + n % 10) ∷ []) (decimal_of left (n / 10) ++ (48 + n % 10) ∷ [])) ≡ true
  go true r h = rw h
  go false r h = every_both p (decimal_of left (n / 10)) ((48 + n % 10) ∷ []) r (rw h)

no_lf : (n : ℕ) → every not_lf (count_text n) ≡ true
no_lf n = every_digit not_lf (λ d h. ap not (ne_eqb (48 + d) 10 (λ e. omega arith))) 20 n

no_tab : (n : ℕ) → every not_tab (count_text n) ≡ true
no_tab n = every_digit not_tab (λ d h. ap not (ne_eqb (48 + d) 9 (λ e. omega arith))) 20 n

-- ---- up to the first LF, and after it
other : (x : ℕ) (xs : List ℕ) → every not_lf (x ∷ xs) ≡ true → eqb x 10 ≡ false
unfolding every
other x xs h = not-true _ (both_l (not_lf x) (every not_lf xs) h)

first_past : (xs t : List ℕ) → every not_lf xs ≡ true → first_line (xs ++ t) ≡ xs ++ first_line t
unfolding first_line every
first_past [] t h = refl
first_past (x ∷ xs) t h = rw (other x xs h) (ap (λ (l : List ℕ). x ∷ l) (first_past xs t (both_r (not_lf x) (every not_lf xs) h)))

after_past : (xs t : List ℕ) → every not_lf xs ≡ true → after_first (xs ++ t) ≡ after_first t
unfolding after_first every
after_past [] t h = refl
after_past (x ∷ xs) t h = rw (other x xs h) (after_past xs t (both_r (not_lf x) (every not_lf xs) h))

-- ---- a list of stops
module _ (n : ℕ) (ps cs : List Float) where
  -- `stops`, their number, `evaluations`
  abbrev stops_field : List ℕ
  stops_field = 115 ∷ 116 ∷ 111 ∷ 112 ∷ 115 ∷ []

  abbrev evaluations_field : List ℕ
  evaluations_field = 101 ∷ 118 ∷ 97 ∷ 108 ∷ 117 ∷ 97 ∷ 116 ∷ 105 ∷ 111 ∷ 110 ∷ 115 ∷ []

  list_first : (e : ℕ) → take 3 (fields (first_line (list_text n e ps cs))) ≡ stops_field ∷ count_text n ∷ evaluations_field ∷ []
  unfolding list_text first_line fields on_first
  list_first e =
      let after = count_text e ++ 10 ∷ rows_text n ps cs in
      ap (λ (l : List ℕ). stops_field ∷ take 2 (fields l)) (first_past (count_text n) (evaluations_word ++ after) (no_lf n))
      ∙ ap (λ (f : List (List ℕ)). stops_field ∷ take 2 f) (fields_past (count_text n) (evaluations_field ++ 9 ∷ first_line after) (no_tab n))

  list_rest : (e : ℕ) → after_first (list_text n e ps cs) ≡ rows_text n ps cs
  unfolding list_text after_first
  list_rest e = after_past (count_text n) (evaluations_word ++ (count_text e ++ 10 ∷ rows_text n ps cs)) (no_lf n) ∙ after_past (count_text e) (10 ∷ rows_text n ps cs) (no_lf e)

  -- it is no refusal, which starts otherwise
  list_not_refused : (e number : ℕ) → list_text n e ps cs ≡ refused_text number → ⊥
  unfolding list_text refused_text line_text
  list_not_refused e number h = omega (arith, ap (λ (t : List ℕ). get_or t 0 0) h)

-- the same text
pub same_text : {x y : List ℕ} → x ≡ y → SameStopLines x y
same_text e = record { first = ap (λ (t : List ℕ). take 3 (fields (first_line t))) e; rest = ap after_first e; refused = λ number. (λ h. sym e ∙ h, λ h. e ∙ h) }

-- answers that differ in the number of evaluations alone
pub same_answers : (refusal n e e' : ℕ) (ps cs : List Float) → SameStopLines (listed_text (listed_of refusal n e) ps cs) (listed_text (listed_of refusal n e') ps cs)
same_answers (suc r) n e e' ps cs = same_text refl
same_answers zero n e e' ps cs =
    record {
      first = list_first n ps cs e ∙ sym (list_first n ps cs e');
      rest = list_rest n ps cs e ∙ sym (list_rest n ps cs e');
      refused = λ number. (λ h. absurd (list_not_refused n ps cs e number h), λ h. absurd (list_not_refused n ps cs e' number h));
    }
