-- The lines of the header, and the name on line 2. Assumes nothing.
use Prim.Native.Nat.{ℕ, ◌-◌, ◌≤◌, ◌<◌}
use native.Mathlib.Omega.{arith}
use mathlib.Core.Path.{◌≡◌, refl, sym, ap, ◌∙◌}
use mathlib.Core.Bool.{Bool, true, false}
use mathlib.Core.List.{List, [], ◌∷◌}
use lib.ListN.{length, take, drop, drop_of_length-le}
use Rattle.text.specs.Text.{every, ascii, unmark, lines, first_of, rest_of, trim_start, trim_end, trim}
use Rattle.text.specs.Places.{LineAt}
use Rattle.text.specs.Utf8.{utf8}
use Rattle.header.specs.Head.{or_empty, text_lines, saved_lines, name_in}

or_rest : (ls : List (List ℕ)) → rest_of (or_empty ls) ≡ rest_of ls
unfolding or_empty rest_of
or_rest [] = refl
or_rest (l ∷ ls) = refl

rest_text : (s : List ℕ) → rest_of (text_lines s) ≡ rest_of (lines (unmark s))
unfolding text_lines rest_of unmark lines
rest_text [] = refl
rest_text (b ∷ s) = or_rest (lines (unmark (b ∷ s)))

or_first : (ls : List (List ℕ)) → first_of (or_empty ls) ≡ first_of ls
unfolding or_empty first_of
or_first [] = refl
or_first (l ∷ ls) = refl

first_text : (s : List ℕ) → first_of (text_lines s) ≡ first_of (lines (unmark s))
unfolding text_lines first_of unmark lines
first_text [] = refl
first_text (b ∷ s) = or_first (lines (unmark (b ∷ s)))

-- line 1 starts at a, line 2 at `at`
module _ (s : List ℕ) {a one at : ℕ} (m : drop a s ≡ unmark s) (v : LineAt s a one at) {end next : ℕ} (w : LineAt s at end next) where
  line_2 : first_of (rest_of (text_lines s)) ≡ take (end - at) (drop at s)
  line_2 = ap first_of (rest_text s ∙ ap (λ (u : List ℕ). rest_of (lines u)) (sym m) ∙ sym v.rest) ∙ sym w.first

  line_1 : first_of (text_lines s) ≡ take (one - a) (drop a s)
  line_1 = first_text s ∙ ap (λ (u : List ℕ). first_of (lines u)) (sym m) ∙ sym v.first

  line_3 : first_of (rest_of (rest_of (text_lines s))) ≡ first_of (lines (drop next s))
  line_3 = ap (λ (ls : List (List ℕ)). first_of (rest_of ls)) (rest_text s ∙ ap (λ (u : List ℕ). rest_of (lines u)) (sym m) ∙ sym v.rest) ∙ ap first_of (sym w.rest)

  -- ---- their bytes
  module _ {p : Bool} (e : p ≡ every ascii (take (one - a) (drop a s))) where
    ascii_1 : every ascii (first_of (text_lines s)) ≡ p
    ascii_1 = ap (every ascii) line_1 ∙ sym e

    pub head_one : p ≡ false → false ≡ saved_lines (text_lines s)
    unfolding saved_lines
    head_one f = rw (ascii_1, f)

    module _ {q : Bool} (g : q ≡ utf8 (take (end - at) (drop at s))) (f : p ≡ true) where
      utf8_2 : utf8 (first_of (rest_of (text_lines s))) ≡ q
      utf8_2 = ap utf8 line_2 ∙ sym g

      pub head_two : q ≡ false → false ≡ saved_lines (text_lines s)
      unfolding saved_lines
      head_two h = rw (ascii_1, f, utf8_2, h)

      pub head_three : q ≡ true → {third last : ℕ} → LineAt s next third last → {r : Bool} → r ≡ every ascii (take (third - next) (drop next s)) → r ≡ saved_lines (text_lines s)
      unfolding saved_lines
      head_three h k z = rw (ascii_1, f, utf8_2, h) (z ∙ ap (every ascii) (k.first ∙ sym line_3))

  pub name_read : trim (drop 5 (take (end - at) (drop at s))) ≡ name_in s
  unfolding name_in
  name_read = ap (λ (x : List ℕ). trim (drop 5 x)) (sym line_2)

  pub name_short : length (take (end - at) (drop at s)) < 5 → [] ≡ name_in s
  unfolding trim trim_end trim_start
  name_short h =
      let z : length (take (end - at) (drop at s)) ≤ 5 = omega arith in
      sym (ap trim (drop_of_length-le (take (end - at) (drop at s)) z)) ∙ name_read
