-- What the lines and words of a text are, of which its parts are known: texts of numbers with a space after each, lines that end with LF. Assumes nothing.
use mathlib.Core.Path.{◌≡◌, refl, ap, ◌∙◌}
use mathlib.Core.Bool.{Bool, true, false, cond, not, ◌&&◌, and-false}
use mathlib.Core.List.{List, [], ◌∷◌, ◌++◌}
use Prim.Native.Nat.{ℕ, zero, suc, ◌+◌, ◌-◌, ◌*◌, ◌/◌, ◌%◌, ◌^◌, ◌≤◌, ◌<◌}
use native.Mathlib.Nat.{lt_irrefl, div-lt_iff_lt-mul, pow-suc, lt_of_lt_of_le, le_of_eq}
use native.Mathlib.Omega.{arith}
use lib.Dec.{ltb, eqb, lit<, lit≤}
use Rattle.std.specs.Prelude.{Some}
use Rattle.float.proofs.Flags.{both_l}
use lib.ListN.{length, length-append}
use borrow.Author.Tests.{le-leb, lt-leb, ne_eqb, lt-ltb, ltb-true}
use Rattle.decimal.specs.Decimal.{is_digit, value_after}
use Rattle.decimal.proofs.Parts.{value_split, digit, no_digit}
use Rattle.rows.specs.Digits.{digits_of, digits_with}
use Rattle.text.specs.Text.{every, ascii, lines, at_lf, on_first, white, in_word, words}
use Rattle.text.proofs.Bytes.{every_both}
use Rattle.text.specs.Output.{decimal_of}
use Rattle.numerals.proofs.Marks.{Marks}

-- ---- bytes that show: from 32 to 126
unfoldable pub Shown : List ℕ → Type 0
Shown [] = Unit {0}
Shown (b ∷ bs) = (32 ≤ b) × (b ≤ 126) × Shown bs

pub shown_both : (xs ys : List ℕ) → Shown xs → Shown ys → Shown (xs ++ ys)
unfolding Shown
shown_both [] ys h k = k
shown_both (x ∷ xs) ys h k = (h.0, h.1, shown_both xs ys h.2 k)

pub shown_marks : (xs : List ℕ) → Marks xs → Shown xs
unfolding Shown Marks
shown_marks [] h = tt
shown_marks (x ∷ xs) h = (omega (arith, h.0), omega (arith, h.1), shown_marks xs h.2)

-- they are ASCII, and of one line
pub shown_ascii : (xs : List ℕ) → Shown xs → every ascii xs ≡ true
unfolding Shown every
shown_ascii [] h = refl
shown_ascii (x ∷ xs) h = simp (le-leb x 127 (omega (arith, h.1))) (shown_ascii xs h.2)

pub lines_line : (l s : List ℕ) → Shown l → lines (l ++ (10 ∷ s)) ≡ l ∷ lines s
unfolding Shown lines on_first
lines_line [] s h = refl
lines_line (b ∷ l) s h =
    let lf : eqb b 10 ≡ false = ne_eqb b 10 (λ e. omega (arith, h.0)) in
    let cr : eqb b 13 ≡ false = ne_eqb b 13 (λ e. omega (arith, h.0)) in
    ap (λ (t : Bool). cond t ([] ∷ lines (l ++ (10 ∷ s))) (cond (at_lf (l ++ (10 ∷ s)) && eqb b 13) (lines (l ++ (10 ∷ s))) (on_first b (lines (l ++ (10 ∷ s)))))) lf
    ∙ ap (λ (t : Bool). cond (at_lf (l ++ (10 ∷ s)) && t) (lines (l ++ (10 ∷ s))) (on_first b (lines (l ++ (10 ∷ s))))) cr
    ∙ ap (λ (t : Bool). cond t (lines (l ++ (10 ∷ s))) (on_first b (lines (l ++ (10 ∷ s))))) (and-false (at_lf (l ++ (10 ∷ s))))
    ∙ ap (on_first b) (lines_line l s h.2)

-- ---- a word and the space after it
not_white : (b : ℕ) → 45 ≤ b → b ≤ 57 → white b ≡ false
unfolding white
not_white b l h = simp (ne_eqb b 32 (λ e. omega arith), lt-leb b 13 (omega arith), and-false)

pick : (w v : Bool) (x y z : List (List ℕ)) → w ≡ false → v ≡ true → cond w x (cond v y z) ≡ y
pick w v x y z e f = rw (e, f)

pub words_word : (t s : List ℕ) → Marks t → 0 < length t → words (t ++ (32 ∷ s)) ≡ t ∷ words s
unfolding Marks words in_word on_first white
words_word [] s h l = absurd (lt_irrefl 0 l)
words_word (b ∷ []) s h l = simp (not_white b h.0 h.1)
words_word (b ∷ c ∷ t) s h l =
    let k = h.2 in
    pick (white b) (not (white c)) _ _ _ (not_white b h.0 h.1) (ap not (not_white c k.0 k.1)) ∙ ap (on_first b) (words_word (c ∷ t) s k (omega arith))

-- ---- a count: its digits make it
digits_of_lem : (left n : ℕ) → n < 10 ^ left → (every is_digit (decimal_of left n) ≡ true) × (value_after 0 (decimal_of left n) ≡ n)
unfolding decimal_of every value_after
digits_of_lem zero n h = (refl, omega arith)
digits_of_lem (suc left) n h = go (ltb n 10) refl (digits_of_lem left (n / 10) ((div-lt_iff_lt-mul (lit< tt)).1 (lt_of_lt_of_le h (le_of_eq (pow-suc 10 left)))))
  where
    is : is_digit (48 + n % 10) ≡ true
    is = digit (48 + n % 10) (omega arith) (omega arith)

    go : (b : Bool) → ltb n 10 ≡ b → (every is_digit (decimal_of left (n / 10)) ≡ true) × (value_after 0 (decimal_of left (n / 10)) ≡ n / 10)
        → (every is_digit (cond b ((48 + n % 10) ∷ []) (decimal_of left (n / 10) ++ (48 + n % 10) ∷ [])) ≡ true) × (value_after 0 (cond b ((48 + n % 10) ∷ []) (decimal_of left (n / 10) ++ (48 + n % 10) ∷ [])) ≡ n)
    go true e ih = (simp is, omega (arith, ltb-true n 10 e))
    go false e ih = (
      every_both is_digit (decimal_of left (n / 10)) ((48 + n % 10) ∷ []) ih.0 (simp is),
      value_split 0 (decimal_of left (n / 10)) ((48 + n % 10) ∷ []) ∙ ap (λ (v : ℕ). v * 10 + (48 + n % 10 - 48)) ih.1 ∙ omega arith,
    )

some_digits : (left n : ℕ) → 0 < left → 0 < length (decimal_of left n)
unfolding decimal_of
some_digits zero n l = absurd (lt_irrefl 0 l)
some_digits (suc left) n l = go (ltb n 10)
  where
    go : (b : Bool) → 0 < length (cond b ((48 + n % 10) ∷ []) (decimal_of left (n / 10) ++ (48 + n % 10) ∷ []))
    go true = omega arith
    go false = omega (arith, length-append (decimal_of left (n / 10)) ((48 + n % 10) ∷ []))

-- no digit is a plus
unplussed : (l : List ℕ) → 0 < length l → every is_digit l ≡ true → digits_with true l ≡ digits_of l
unfolding digits_with every
unplussed [] h e = absurd (lt_irrefl 0 h)
unplussed (b ∷ l) h e = simp (no_digit b 43 (both_l (is_digit b) (every is_digit l) e) refl)

is_number : (l : List ℕ) (n : ℕ) → 0 < length l → every is_digit l ≡ true → value_after 0 l ≡ n → n < 2 ^ 64 → digits_of l ≡ Some n
unfolding digits_of
is_number l n h e v b = simp (lt-ltb 0 (length l) h, e, v, lt-ltb n (2 ^ 64) b)

pub count_read : (n : ℕ) → n < 1000 → digits_with true (decimal_of 20 n) ≡ Some n
count_read n h =
    let d = digits_of_lem 20 n (lt_of_lt_of_le h (lit≤ tt)) in
    let s = some_digits 20 n (lit< tt) in
    unplussed (decimal_of 20 n) s d.0 ∙ is_number (decimal_of 20 n) n s d.0 d.1 (lt_of_lt_of_le h (lit≤ tt))

pub count_shown : (left n : ℕ) → Shown (decimal_of left n)
unfolding Shown decimal_of
count_shown zero n = tt
count_shown (suc left) n = go (ltb n 10) (count_shown left (n / 10))
  where
    go : (b : Bool) → Shown (decimal_of left (n / 10)) → Shown (cond b ((48 + n % 10) ∷ []) (decimal_of left (n / 10) ++ (48 + n % 10) ∷ []))
    go true h = (omega arith, omega arith, tt)
    go false h = shown_both (decimal_of left (n / 10)) ((48 + n % 10) ∷ []) h (omega arith, omega arith, tt)
