-- Where the code stands in a token: the digits read so far, and what the definition makes of the whole where they end. Assumes nothing.
use mathlib.Core.Path.{◌≡◌, refl, sym, ap, ◌∙◌, subst}
use mathlib.Core.Bool.{Bool, true, false}
use mathlib.Core.List.{List, [], ◌∷◌, ◌++◌, append-nil}
use Prim.Native.Nat.{ℕ, suc, ◌+◌, ◌-◌, ◌*◌, ◌^◌, ◌≤◌, ◌<◌}
use native.Mathlib.Nat.{lt_irrefl, le_antisymm, le_of_eq, le_of_lt, lt_of_lt_of_le}
use native.Mathlib.Numerals.{add-one}
use native.Mathlib.Omega.{arith}
use lib.ListN.{length, take, drop, get_or, length-append, length-drop}
use lib.Pow.{pow-add}
use lib.Seq.{drop-cons, drop-length, take_all}
use borrow.Author.Tests.{eq-eqb, ne_eqb}
use Rattle.decimal.specs.declared.Token.TheVariants.{NoNumber}
use Rattle.decimal.specs.Decimal.{is_digit, value_after, number_of, unsigned_of, read_of}
use Rattle.decimal.specs.inner.Steps.{DigitRun, RunsTo}
use Rattle.decimal.proofs.Parts.{digit, digits_none, digits_more, value_split, whole_number, point_number, other_byte, after_byte}

-- ---- a place in the token
pub at_byte : (s : List ℕ) (i : ℕ) → i < length s → drop i s ≡ get_or s i 0 ∷ drop (i + 1) s
at_byte s i h = rw (add-one, drop-cons s i 0)

pub at-end : (s : List ℕ) (i : ℕ) → i ≤ length s → length s ≤ i → drop i s ≡ []
at-end s i a b = ap (λ (x : ℕ). drop x s) (le_antisymm a b) ∙ drop-length s

-- what holds at the loop's head: the digits from `from` to i make value
pub record Held (s : List ℕ) (from before value five i : ℕ) : Type 0 where
  pub run : DigitRun before (drop from s) value (drop i s)
  pub fives : five ≡ 5 ^ (i - from)
  pub small : value < 10 ^ i

pub held_start : (s : List ℕ) (from before : ℕ) → before < 10 ^ from → Held s from before before 1 from
held_start s from before l = record { run = digits_none before (drop from s); fives = sym (ap (λ (x : ℕ). 5 ^ x) (none from)); small = l }
  where
    none : (x : ℕ) → x - x ≡ 0
    none x = omega arith

module _ (s : List ℕ) (from before value five i : ℕ) (h : Held s from before value five i) where
  pub held_next : from ≤ i → i < length s → 48 ≤ get_or s i 0 → get_or s i 0 ≤ 57 → Held s from before (value * 10 + (get_or s i 0 - 48)) (five * 5) (i + 1)
  held_next past l a b =
      let t : 10 ^ (i + 1) ≡ 10 ^ i * 10 = pow-add 10 i 1 in
      let v = h.small in
      record {
        run = digits_more before (drop from s) value (get_or s i 0) (drop (i + 1) s) (subst (DigitRun before (drop from s) value) (at_byte s i l) h.run) (digit (get_or s i 0) a b);
        fives = ap (λ (x : ℕ). x * 5) h.fives ∙ sym (pow-add 5 (i - from) 1) ∙ ap (λ (x : ℕ). 5 ^ x) (further i from past);
        small = omega arith;
      }
    where
      further : (x y : ℕ) → y ≤ x → x - y + 1 ≡ x + 1 - y
      further x y g = omega arith

  pub held_stop : i < length s → is_digit (get_or s i 0) ≡ false → RunsTo s from before value five i
  held_stop l e = record { run = h.run; within = le_of_lt l; fives = h.fives; stops = λ l. e; small = h.small }

  pub held_end : i ≡ length s → RunsTo s from before value five (length s)
  held_end e = subst (RunsTo s from before value five) e (record { run = h.run; within = le_of_eq e; fives = h.fives; stops = λ (g : i < length s). absurd (lt_irrefl i (lt_of_lt_of_le g (le_of_eq (sym e)))); small = h.small })

-- ---- the digits from the start, up to `at`
module _ (neg : Bool) (s : List ℕ) (v five at : ℕ) (w : RunsTo s 0 0 v five at) where
  pub read_whole : at ≡ length s → unsigned_of neg s ≡ number_of neg v (length s) 0
  read_whole e =
      let xs = w.run.run in
      let is : s ≡ xs = w.run.is ∙ ap (λ (l : List ℕ). xs ++ l) (at-end s at w.within (le_of_eq (sym e))) ∙ append-nil xs in
      subst (λ (l : List ℕ). unsigned_of neg l ≡ number_of neg v (length l) 0) (sym is)
      (whole_number neg xs w.run.all ∙ ap (λ (d : ℕ). number_of neg d (length xs) 0) (sym w.run.makes))

  -- the same with the byte there
  upto : at < length s → s ≡ w.run.run ++ (get_or s at 0 ∷ drop (at + 1) s)
  upto l = w.run.is ∙ ap (λ (r : List ℕ). w.run.run ++ r) (at_byte s at l)

  pub read_other : at < length s → (get_or s at 0 ≡ 46 → ⊥) → unsigned_of neg s ≡ NoNumber
  read_other l f = ap (unsigned_of neg) (upto l) ∙ other_byte neg w.run.run w.run.all (get_or s at 0) (drop (at + 1) s) (w.stops l) f

-- ---- and those after the point, up to `end`
module _ (neg : Bool) (s : List ℕ) (v five at : ℕ) (w : RunsTo s 0 0 v five at) (u five' end : ℕ) (f : RunsTo s (at + 1) v u five' end) (l : at < length s) (p : get_or s at 0 ≡ 46) where
  parts : s ≡ w.run.run ++ (46 ∷ (f.run.run ++ drop end s))
  parts = upto neg s v five at w l ∙ ap (λ (b : ℕ). w.run.run ++ (b ∷ drop (at + 1) s)) p ∙ ap (λ (r : List ℕ). w.run.run ++ (46 ∷ r)) f.run.is

  pub read_stopped : end < length s → unsigned_of neg s ≡ NoNumber
  read_stopped g =
      ap (unsigned_of neg) (parts ∙ ap (λ (r : List ℕ). w.run.run ++ (46 ∷ (f.run.run ++ r))) (at_byte s end g))
      ∙ after_byte neg w.run.run w.run.all f.run.run (get_or s end 0) (drop (end + 1) s) (f.stops g)

  pub read_both : length s ≤ end → unsigned_of neg s ≡ number_of neg u (length s - 1) (length s - 1 - at)
  read_both g =
      let xs = w.run.run in
      let ys = f.run.run in
      let is : s ≡ xs ++ (46 ∷ ys) = parts ∙ ap (λ (r : List ℕ). xs ++ (46 ∷ (ys ++ r))) (at-end s end f.within g) ∙ ap (λ (r : List ℕ). xs ++ (46 ∷ r)) (append-nil ys) in
      let a : length s ≡ length xs + (length s - at) = ap length w.run.is ∙ simp (length-append, length-drop) in
      let b : length s ≡ length xs + suc (length ys) = ap length is ∙ simp length-append in
      let m : length (xs ++ ys) ≡ length s - 1 = length-append xs ys ∙ (omega arith) in
      let k : length ys ≡ length s - 1 - at = omega arith in
      let d : value_after 0 (xs ++ ys) ≡ u = value_split 0 xs ys ∙ ap (λ (x : ℕ). value_after x ys) (sym w.run.makes) ∙ sym f.run.makes in
      ap (unsigned_of neg) is
      ∙ point_number neg xs w.run.all ys f.run.all
      ∙ ap (λ (x : ℕ). number_of neg x (length (xs ++ ys)) (length ys)) d
      ∙ ap (λ (x : ℕ). number_of neg u x (length ys)) m
      ∙ ap (number_of neg u (length s - 1)) k

pub read_fives : (s : List ℕ) (at v u five end : ℕ) → RunsTo s (at + 1) v u five end → length s ≤ end → five ≡ 5 ^ (length s - 1 - at)
read_fives s at v u five end f g = f.fives ∙ ap (λ (x : ℕ). 5 ^ x) (less (length s) at end g f.within)
  where
    less : (n x e : ℕ) → n ≤ e → e ≤ n → e - (x + 1) ≡ n - 1 - x
    less n x e a b = omega arith

-- ---- the sign
pub read_empty : (s : List ℕ) → length s ≡ 0 → read_of s ≡ NoNumber
unfolding read_of
read_empty [] e = refl
read_empty (b ∷ bs) e = absurd (none (length bs) e)
  where
    none : (n : ℕ) → suc n ≡ 0 → ⊥
    none n e = omega arith

pub read_minus : (s : List ℕ) → 0 < length s → get_or s 0 0 ≡ 45 → read_of s ≡ unsigned_of true (drop 1 s)
unfolding read_of
read_minus [] l e = absurd (lt_irrefl 0 l)
read_minus (b ∷ bs) l e = simp (eq-eqb b 45 e)

pub read_plus : (s : List ℕ) → 0 < length s → get_or s 0 0 ≡ 43 → read_of s ≡ unsigned_of false (drop 1 s)
unfolding read_of
read_plus [] l e = absurd (lt_irrefl 0 l)
read_plus (b ∷ bs) l e = simp e

pub read_plain : (s : List ℕ) → 0 < length s → (get_or s 0 0 ≡ 45 → ⊥) → (get_or s 0 0 ≡ 43 → ⊥) → read_of s ≡ unsigned_of false s
unfolding read_of
read_plain [] l e f = absurd (lt_irrefl 0 l)
read_plain (b ∷ bs) l e f = simp (ne_eqb b 45 e, ne_eqb b 43 f)

-- ---- a slice's part from a start to its end
pub part_to_end : (s : List ℕ) (k : ℕ) → take (length s - k) (drop k s) ≡ drop k s
part_to_end s k = take_all (length s - k) (drop k s) (le_of_eq (length-drop k s))
