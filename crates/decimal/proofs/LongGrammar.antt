-- The long token rule as a grammar, both ways: bytes of the form are read as the number that they write, rounded once (`grammar`); and LongForms has that any others are read as none.
-- Every short number is a long one (`short_is_long`). Assumes nothing.
use mathlib.Core.Path.{◌≡◌, refl, sym, ap, ◌∙◌, subst}
use mathlib.Core.Logic.{inl}
use mathlib.Core.Bool.{Bool, true, false, cond}
use mathlib.Core.List.{List, [], ◌∷◌, ◌++◌, append-nil}
use Prim.Native.Nat.{ℕ, ◌+◌, ◌*◌, ◌^◌, ◌<◌}
use native.Mathlib.Nat.{le_trans, add-zero}
use native.Mathlib.Omega.{arith}
use lib.Dec.{eqb}
use lib.ListN.{length}
use lib.Ieee.{binary32, round}
use borrow.Author.Tests.{le-leb, eqb-true}
use Rattle.decimal.specs.declared.Token.TheVariants.{Number}
use Rattle.decimal.specs.Decimal.{is_digit, are_digits, value_after}
use Rattle.decimal.specs.Long.{is_minus, past_sign, first_digits, past_digits, is_mark, long_number, with_power, after_digits, after_whole, unsigned_long_of, read_long_of}
use Rattle.decimal.specs.Form.{Sign, Rest, nothing, point, Form, Power, unmoved, raised, lowered, LongForm}
use Rattle.decimal.specs.inner.Counted.{Stops, is_point}
use Rattle.decimal.proofs.Significance.{few_of, few_digits}
use Rattle.decimal.proofs.LongAfter.{no_point, a_point, long_is}
use Rattle.decimal.proofs.LongPlace.{stops_end, stops_byte, first_run, past_run}
use Rattle.decimal.proofs.OneForm.{begins, sign_off}

-- ---- a mark
mark_digit : (b : ℕ) → is_mark b ≡ true → (is_digit b ≡ false) × (eqb b 46 ≡ false)
mark_digit b h = go (eqb b 101) refl h
  where
    go : (t : Bool) → eqb b 101 ≡ t → cond t true (eqb b 69) ≡ true → (is_digit b ≡ false) × (eqb b 46 ≡ false)
    go true e k = let x = eqb-true b 101 e in (ap is_digit x, ap (λ (y : ℕ). eqb y 46) x)
    go false e k = let x = eqb-true b 69 k in (ap is_digit x, ap (λ (y : ℕ). eqb y 46) x)

-- ---- what a power is read as
sign_digits : {sign : List ℕ} {neg : Bool} → Sign sign neg → (es : List ℕ) → are_digits es ≡ true → 0 < length es → (is_minus (sign ++ es) ≡ neg) × (past_sign (sign ++ es) ≡ es)
sign_digits {sign} {neg} g es d l = subst (λ (x : List ℕ). (is_minus (sign ++ x) ≡ neg) × (past_sign (sign ++ x) ≡ x)) (append-nil es) (sign_off g es [] d (inl l))

power_stops : {p : List ℕ} {up lower : ℕ} → Power p up lower → Stops p × (is_point p ≡ false)
power_stops unmoved = (stops_end, refl)
power_stops (raised {mark} {sign} es m g d l) = (stops_byte mark (sign ++ es) (mark_digit mark m).0, (mark_digit mark m).1)
power_stops (lowered {mark} {sign} es m g d l) = (stops_byte mark (sign ++ es) (mark_digit mark m).0, (mark_digit mark m).1)

module _ (neg : Bool) (ds : List ℕ) (k : ℕ) where
  marked : (mark : ℕ) (sign es : List ℕ) (s : Bool) → is_mark mark ≡ true → Sign sign s → are_digits es ≡ true → 0 < length es → after_digits neg ds k (mark ∷ (sign ++ es)) ≡ cond s (long_number neg ds 0 (k + value_after 0 es)) (long_number neg ds (value_after 0 es) k)
  unfolding after_digits with_power
  marked mark sign es s m g d l = let o = sign_digits g es d l in simp (m, o.0, o.1, le-leb 1 (length es) l, d)

  pub power_read : {p : List ℕ} {up lower : ℕ} → Power p up lower → after_digits neg ds k p ≡ long_number neg ds up (k + lower)
  unfolding after_digits
  power_read unmoved = ap (long_number neg ds 0) (sym (add-zero k))
  power_read (raised {mark} {sign} es m g d l) = marked mark sign es false m g d l ∙ ap (long_number neg ds (value_after 0 es)) (sym (add-zero k))
  power_read (lowered {mark} {sign} es m g d l) = marked mark sign es true m g d l

-- ---- what stands before it
tail_stops : {rest after p : List ℕ} → Rest rest after → Stops p → Stops (rest ++ p)
tail_stops nothing t = t
tail_stops {p = p} (point {ys}) t = stops_byte 46 (ys ++ p) refl

-- digits, and no more
runs : (xs l : List ℕ) → are_digits xs ≡ true → Stops l → (first_digits (xs ++ l) ≡ xs) × (past_digits (xs ++ l) ≡ l)
runs xs l h t = (first_run xs l h ∙ ap (λ (r : List ℕ). xs ++ r) t.none ∙ append-nil xs, past_run xs l h ∙ t.same)

whole_read : {rest after : List ℕ} (neg : Bool) (before p : List ℕ) → Rest rest after → are_digits after ≡ true → Stops p → is_point p ≡ false → after_whole neg before (rest ++ p) ≡ after_digits neg (before ++ after) (length after) p
whole_read neg before p nothing h t n = no_point neg before p n ∙ ap (λ (l : List ℕ). after_digits neg l 0 p) (sym (append-nil before))
whole_read neg before p (point {ys}) h t n =
    let r = runs ys p h t in
    a_point neg before 46 (ys ++ p) refl
    ∙ ap (λ (l : List ℕ). after_digits neg (before ++ l) (length l) (past_digits (ys ++ p))) r.0
    ∙ ap (after_digits neg (before ++ ys) (length ys)) r.1

pub begun : (s : List ℕ) (neg : Bool) (u : List ℕ) → is_minus s ≡ neg → past_sign s ≡ u → read_long_of s ≡ after_whole neg (first_digits u) (past_digits u)
unfolding read_long_of unsigned_long_of
begun s neg u e f = ap (λ (t : Bool). after_whole t (first_digits (past_sign s)) (past_digits (past_sign s))) e ∙ ap (λ (l : List ℕ). after_whole neg (first_digits l) (past_digits l)) f

pub grammar : {s : List ℕ} {neg : Bool} {d up down : ℕ} → LongForm s neg d up down → read_long_of s ≡ Number (round binary32 neg (d * 10 ^ up) (10 ^ down))
grammar {s} {neg} {d} {up} {down} f =
    let all = f.before ++ f.after in
    let tail = f.rest ++ f.power in
    let p = power_stops f.moved in
    let o = sign_off f.signed f.before tail f.digits.0 (begins f.before f.ends f.power f.some) in
    let r = runs f.before tail f.digits.0 (tail_stops f.ends p.0) in
    ap read_long_of f.is
    ∙ begun (f.sign ++ (f.before ++ tail)) neg (f.before ++ tail) o.0 o.1
    ∙ ap (λ (l : List ℕ). after_whole neg l (past_digits (f.before ++ tail))) r.0
    ∙ ap (after_whole neg f.before) r.1
    ∙ whole_read neg f.before f.power f.ends f.digits.1 p.0 p.1
    ∙ power_read neg all (length f.after) f.moved
    ∙ long_is neg all up (length f.after + f.lower) f.some (few_of all f.few)
    ∙ ap (λ (x : ℕ). Number (round binary32 neg (x * 10 ^ up) (10 ^ (length f.after + f.lower)))) (sym f.value)
    ∙ ap (λ (x : ℕ). Number (round binary32 neg (d * 10 ^ up) (10 ^ x))) (sym f.places)

-- ---- a short number is a long one
pub short_is_long : {s : List ℕ} {neg : Bool} {d k : ℕ} → Form s neg d k → LongForm s neg d 0 k
short_is_long f =
    record {
      sign = f.sign;
      before = f.before;
      rest = f.rest;
      after = f.after;
      power = [];
      lower = 0;
      signed = f.signed;
      ends = f.ends;
      moved = unmoved;
      is = f.is ∙ ap (λ (l : List ℕ). f.sign ++ (f.before ++ l)) (sym (append-nil f.rest));
      digits = f.digits;
      some = f.some;
      few = few_digits (f.before ++ f.after) (le_trans f.few (omega arith));
      value = f.value;
      places = f.places ∙ sym (add-zero (length f.after));
    }
