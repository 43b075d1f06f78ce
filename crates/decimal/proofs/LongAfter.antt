-- What the definition of a long token makes of what follows its digits, and of the whole. Assumes nothing.
use mathlib.Core.Path.{◌≡◌, refl, sym, ap, ◌∙◌}
use mathlib.Core.Bool.{Bool, true, false, cond, ◌&&◌, and-false}
use mathlib.Core.List.{List, [], ◌∷◌, ◌++◌, append-nil}
use Prim.Native.Nat.{ℕ, suc, ◌+◌, ◌*◌, ◌^◌, ◌≤◌, ◌<◌}
use native.Mathlib.Nat.{le_of_eq, lt_of_not-le}
use native.Mathlib.Decide.{dec_le}
use native.Mathlib.Omega.{arith}
use lib.Dec.{eqb, leb}
use lib.ListN.{length, drop, get_or}
use lib.Ieee.{binary32, round}
use borrow.Author.Tests.{le-leb}
use Rattle.decimal.specs.declared.Token.{Token}
use Rattle.decimal.specs.declared.Token.TheVariants.{Number, NoNumber}
use Rattle.decimal.specs.Decimal.{is_digit, are_digits, value_after}
use Rattle.decimal.specs.Long.{is_minus, past_sign, first_digits, past_digits, few_count, is_mark, long_number, with_power, after_digits, after_whole, unsigned_long_of, read_long_of}
use Rattle.decimal.specs.inner.Counted.{SignAt, DigitsTo, is_point}
use Rattle.decimal.proofs.Counting.{empty, no_cons}
use Rattle.decimal.proofs.Place.{at_byte, at-end}
use Rattle.decimal.proofs.LongPlace.{first_run, past_run}

-- ---- all of them
none_digits : (es : List ℕ) → first_digits es ≡ [] → (leb 1 (length es) && are_digits es) ≡ false
unfolding first_digits are_digits
none_digits [] e = refl
none_digits (x ∷ es) e = go (is_digit x) e
  where
    go : (t : Bool) → cond t (x ∷ first_digits es) [] ≡ [] → (leb 1 (suc (length es)) && (t && are_digits es)) ≡ false
    go true e = absurd (no_cons x (first_digits es) e)
    go false e = and-false (leb 1 (suc (length es)))

digits_past : (es : List ℕ) → are_digits es ≡ true → past_digits es ≡ []
unfolding past_digits
digits_past es h = ap past_digits (sym (append-nil es)) ∙ past_run es [] h

digits_first : (es : List ℕ) → are_digits es ≡ true → first_digits es ≡ es
unfolding first_digits
digits_first es h = ap first_digits (sym (append-nil es)) ∙ first_run es [] h ∙ append-nil es

past_digits_lem : (es : List ℕ) → past_digits es ≡ [] → are_digits es ≡ true
unfolding past_digits are_digits
past_digits_lem [] h = refl
past_digits_lem (x ∷ es) h = go (is_digit x) h (past_digits_lem es)
  where
    go : (t : Bool) → cond t (past_digits es) (x ∷ es) ≡ [] → (past_digits es ≡ [] → are_digits es ≡ true) → (t && are_digits es) ≡ true
    go true k f = f k
    go false k f = absurd (no_cons x es k)

-- ---- what follows the digits
module _ (neg : Bool) (ds : List ℕ) (k : ℕ) (s : List ℕ) (at : ℕ) where
  pub after_end : at ≤ length s → at ≡ length s → after_digits neg ds k (drop at s) ≡ long_number neg ds 0 k
  unfolding after_digits
  after_end h e = ap (after_digits neg ds k) (at-end s at h (le_of_eq (sym e)))

  module _ (h : at < length s) where
    marked : after_digits neg ds k (drop at s) ≡ cond (is_mark (get_or s at 0)) (with_power neg ds k (is_minus (drop (at + 1) s)) (past_sign (drop (at + 1) s))) NoNumber
    unfolding after_digits
    marked = ap (after_digits neg ds k) (at_byte s at h)

    pub after_other : is_mark (get_or s at 0) ≡ false → NoNumber ≡ after_digits neg ds k (drop at s)
    after_other e = sym (marked ∙ ap (λ (t : Bool). cond t (with_power neg ds k (is_minus (drop (at + 1) s)) (past_sign (drop (at + 1) s))) NoNumber) e)

    module _ (e : is_mark (get_or s at 0) ≡ true) (minus : Bool) (from end : ℕ) (g : SignAt s (at + 1) minus from) (r : DigitsTo s from end) where
      abbrev es : List ℕ
      es = drop from s

      abbrev x : Token
      x = cond minus (long_number neg ds 0 (k + value_after 0 es)) (long_number neg ds (value_after 0 es) k)

      powered : after_digits neg ds k (drop at s) ≡ cond (leb 1 (length es) && are_digits es) x NoNumber
      unfolding with_power
      powered =
          marked ∙ ap (λ (t : Bool). cond t (with_power neg ds k (is_minus (drop (at + 1) s)) (past_sign (drop (at + 1) s))) NoNumber) e
          ∙ ap (λ (t : Bool). with_power neg ds k t (past_sign (drop (at + 1) s))) (sym g.is)
          ∙ ap (with_power neg ds k minus) (sym g.past)

      told : (t : Bool) → (leb 1 (length es) && are_digits es) ≡ t → after_digits neg ds k (drop at s) ≡ cond t x NoNumber
      told t f = powered ∙ ap (λ (t : Bool). cond t x NoNumber) f

      pub after_none : end ≡ from → NoNumber ≡ after_digits neg ds k (drop at s)
      after_none f = sym (told false (none_digits es (empty (first_digits es) (no_more (length (first_digits es)) end from r.many f))))
        where
          no_more : (n x y : ℕ) → x ≡ y + n → x ≡ y → n ≡ 0
          no_more n x y e f = omega arith

      pub after_stopped : end < length s → NoNumber ≡ after_digits neg ds k (drop at s)
      after_stopped f = sym (told false (go (are_digits es) refl))
        where
          go : (t : Bool) → are_digits es ≡ t → (leb 1 (length es) && are_digits es) ≡ false
          go false q = ap (λ (t : Bool). leb 1 (length es) && t) q ∙ and-false (leb 1 (length es))
          go true q = absurd (no_cons (get_or s end 0) (drop (end + 1) s) (sym (at_byte s end f) ∙ r.past ∙ digits_past es q))

      -- digits to the end
      module _ (f : end ≡ from → ⊥) (l : length s ≤ end) where
        all_digits : are_digits es ≡ true
        all_digits = past_digits_lem es (sym r.past ∙ at-end s end r.within l)

        pub power_digits : first_digits es ≡ es
        power_digits = digits_first es all_digits

        pub after_power : after_digits neg ds k (drop at s) ≡ x
        after_power =
            told true (ap (λ (t : Bool). t && are_digits es) (le-leb 1 (length es) (some (length es) (length (first_digits es)) end from r.many f (ap length power_digits))) ∙ all_digits)
          where
            some : (n m x y : ℕ) → x ≡ y + m → (x ≡ y → ⊥) → m ≡ n → 1 ≤ n
            some n m x y e f g = omega arith

-- ---- how many digits, and how many that count
module _ (neg : Bool) (ds : List ℕ) (up down : ℕ) where
  pub long_none : length ds ≡ 0 → long_number neg ds up down ≡ NoNumber
  unfolding long_number
  long_none e = ap (λ (n : ℕ). cond (leb 1 n && few_count ds) (Number (round binary32 neg (value_after 0 ds * 10 ^ up) (10 ^ down))) NoNumber) e

  pub long_many : few_count ds ≡ false → long_number neg ds up down ≡ NoNumber
  unfolding long_number
  long_many e =
      ap (λ (t : Bool). cond (leb 1 (length ds) && t) (Number (round binary32 neg (value_after 0 ds * 10 ^ up) (10 ^ down))) NoNumber) e
      ∙ ap (λ (t : Bool). cond t (Number (round binary32 neg (value_after 0 ds * 10 ^ up) (10 ^ down))) NoNumber) (and-false (leb 1 (length ds)))

  pub long_is : 0 < length ds → few_count ds ≡ true → long_number neg ds up down ≡ Number (round binary32 neg (value_after 0 ds * 10 ^ up) (10 ^ down))
  unfolding long_number
  long_is h e =
      ap (λ (t : Bool). cond (leb 1 (length ds) && t) (Number (round binary32 neg (value_after 0 ds * 10 ^ up) (10 ^ down))) NoNumber) e
      ∙ ap (λ (t : Bool). cond (t && true) (Number (round binary32 neg (value_after 0 ds * 10 ^ up) (10 ^ down))) NoNumber) (le-leb 1 (length ds) h)

-- ---- at a point or not
pub no_point : (neg : Bool) (whole l : List ℕ) → is_point l ≡ false → after_whole neg whole l ≡ after_digits neg whole 0 l
unfolding after_whole
no_point neg whole [] e = refl
no_point neg whole (b ∷ bs) e = ap (λ (t : Bool). cond t (after_digits neg (whole ++ first_digits bs) (length (first_digits bs)) (past_digits bs)) (after_digits neg whole 0 (b ∷ bs))) e

pub a_point : (neg : Bool) (whole : List ℕ) (b : ℕ) (bs : List ℕ) → eqb b 46 ≡ true → after_whole neg whole (b ∷ bs) ≡ after_digits neg (whole ++ first_digits bs) (length (first_digits bs)) (past_digits bs)
unfolding after_whole
a_point neg whole b bs e = ap (λ (t : Bool). cond t (after_digits neg (whole ++ first_digits bs) (length (first_digits bs)) (past_digits bs)) (after_digits neg whole 0 (b ∷ bs))) e

-- ---- the whole: its sign, its digits before a point, and what follows them
module _ (s : List ℕ) (minus : Bool) (from at : ℕ) (g : SignAt s 0 minus from) (r : DigitsTo s from at) where
  abbrev whole : List ℕ
  whole = first_digits (drop from s)

  begins : read_long_of s ≡ after_whole minus whole (drop at s)
  unfolding read_long_of unsigned_long_of
  begins =
      ap (λ (t : Bool). after_whole t (first_digits (past_sign s)) (past_digits (past_sign s))) (sym g.is)
      ∙ ap (λ (l : List ℕ). after_whole minus (first_digits l) (past_digits l)) (sym g.past)
      ∙ ap (after_whole minus whole) (sym r.past)

  pub whole_only : is_point (drop at s) ≡ false → after_digits minus whole 0 (drop at s) ≡ read_long_of s
  whole_only e = sym (begins ∙ no_point minus whole (drop at s) e)

  -- a point stands at `at`, and digits follow it up to `end`
  module _ (p : is_point (drop at s) ≡ true) where
    pub point_there : at < length s
    point_there = go (dec_le (length s) at)
      where
        clash : true ≡ false → ⊥
        clash e = let z : ◌≡◌ {A = ℕ} 0 1 = cc in omega arith

        go : Dec (length s ≤ at) → at < length s
        go (no f) = lt_of_not-le f
        go (yes l) = absurd (clash (sym p ∙ ap is_point (at-end s at r.within l)))

    abbrev places : List ℕ
    places = first_digits (drop (at + 1) s)

    pub with_point : (end : ℕ) → DigitsTo s (at + 1) end → after_digits minus (whole ++ places) (length places) (drop end s) ≡ read_long_of s
    with_point end f =
        sym (begins ∙ ap (after_whole minus whole) (at_byte s at point_there) ∙ a_point minus whole (get_or s at 0) (drop (at + 1) s) (ap is_point (sym (at_byte s at point_there)) ∙ p)
        ∙ ap (after_digits minus (whole ++ places) (length places)) (sym f.past))
