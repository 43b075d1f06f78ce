-- Digits, and the number that they make. Assumes nothing.
use Prim.Native.Nat.{ℕ, ◌+◌, ◌-◌, ◌*◌, ◌^◌, ◌≤◌, ◌<◌}
use native.Mathlib.Numerals.{add-one}
use native.Mathlib.Omega.{arith}
use mathlib.Core.Path.{◌≡◌, refl, sym, ap, ◌∙◌}
use mathlib.Core.Bool.{Bool, true, false, cond, ◌&&◌}
use mathlib.Core.List.{List, [], ◌∷◌}
use lib.ListN.{length, drop, get_or, drop_of_length-le}
use lib.Seq.{drop-cons}
use lib.Dec.{leb, ltb}
use borrow.Author.Tests.{le-leb, lt-leb, lt-ltb, le-ltb}
use Rattle.decimal.specs.Decimal.{is_digit, value_after}
use Rattle.std.specs.Prelude.{Option, Some, None}
use Rattle.text.specs.Text.{every}
use Rattle.rows.specs.Digits.{digits_of}
use Rattle.text.proofs.Bytes.{every_step, every_none}

pub value_step : (l : List ℕ) (v i : ℕ) → i < length l → value_after v (drop i l) ≡ value_after (v * 10 + (get_or l i 0 - 48)) (drop (i + 1) l)
unfolding value_after
value_step l v i h = rw (add-one, drop-cons l i 0)

pub value_end : (l : List ℕ) (v i : ℕ) → length l ≤ i → value_after v (drop i l) ≡ v
unfolding value_after
value_end l v i h = rw (drop_of_length-le l h)

pub value_grows : (v : ℕ) (s : List ℕ) → v ≤ value_after v s
unfolding value_after
value_grows v [] = omega arith
value_grows v (b ∷ s) = omega (arith, value_grows (v * 10 + (b - 48)) s)

both_none : (t : Bool) → cond {A = Option ℕ} t None None ≡ None
both_none true = refl
both_none false = refl

module _ (l : List ℕ) where
  pub digits_empty : length l ≡ 0 → None ≡ digits_of l
  unfolding digits_of
  digits_empty e = rw (le-ltb 0 (length l) (omega arith))

  -- a byte that is no digit, after i digits
  pub digits_other : (i : ℕ) → i < length l → every is_digit l ≡ every is_digit (drop i l) → is_digit (get_or l i 0) ≡ false → None ≡ digits_of l
  unfolding digits_of
  digits_other i h e f =
      let g : every is_digit l ≡ false = e ∙ every_step is_digit l i h ∙ ap (λ (t : Bool). t && every is_digit (drop (i + 1) l)) f in
      rw g (sym (no (ltb 0 (length l)) _)) where
        no : (t : Bool) (x : Option ℕ) → cond (t && false) x None ≡ None
        no true x = refl
        no false x = refl

  pub digits_big : 2 ^ 64 ≤ value_after 0 l → None ≡ digits_of l
  unfolding digits_of
  digits_big h = rw (le-ltb (value_after 0 l) (2 ^ 64) h) (sym (both_none (ltb 0 (length l) && every is_digit l)))

  pub digits_is : (v i : ℕ) → 0 < length l → length l ≤ i → every is_digit l ≡ every is_digit (drop i l) → v < 2 ^ 64 → v ≡ value_after 0 l → Some v ≡ digits_of l
  unfolding digits_of
  digits_is v i k f e h g =
      let d : every is_digit l ≡ true = e ∙ every_none is_digit l i f in
      rw (lt-ltb 0 (length l) k, d, ← g, lt-ltb v (2 ^ 64) h)
