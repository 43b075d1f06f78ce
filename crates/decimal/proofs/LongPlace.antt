-- Where the code stands in a long token: at a sign, past some digits, at what follows them; and what the definition makes of the whole there. Assumes nothing.
use mathlib.Core.Path.{◌≡◌, refl, sym, ap, ◌∙◌, subst}
use mathlib.Core.Bool.{Bool, true, false, cond}
use mathlib.Core.List.{List, [], ◌∷◌, ◌++◌, append-nil, append_assoc}
use Prim.Native.Nat.{ℕ, ◌+◌, ◌≤◌, ◌<◌}
use native.Mathlib.Nat.{le_of_eq}
use native.Mathlib.Omega.{arith}
use lib.Dec.{eqb}
use lib.ListN.{length, drop, get_or, length-append}
use borrow.Author.Tests.{eq-eqb, ne_eqb}
use Rattle.decimal.specs.Decimal.{is_digit, are_digits}
use Rattle.decimal.specs.Long.{is_minus, past_sign, first_digits, past_digits}
use Rattle.decimal.specs.inner.Counted.{SignAt, DigitsTo, Passed, Stops, is_point}
use Rattle.decimal.proofs.Parts.{digit, both_digits, first_of, second_of}
use Rattle.decimal.proofs.Place.{at_byte, at-end}

-- ---- a sign
module _ (s : List ℕ) (at : ℕ) where
  pub sign_end : at ≤ length s → at ≡ length s → SignAt s at false at
  sign_end h e = let n = at-end s at h (le_of_eq (sym e)) in record { is = ap is_minus (sym n); past = n ∙ ap past_sign (sym n); within = h }

  module _ (h : at < length s) where
    abbrev b : ℕ
    b = get_or s at 0

    abbrev bs : List ℕ
    bs = drop (at + 1) s

    next : at + 1 ≤ length s
    next = omega arith

    pub sign_minus : b ≡ 45 → SignAt s at true (at + 1)
    sign_minus e =
        record {
          is = sym (ap is_minus (at_byte s at h) ∙ eq-eqb b 45 e);
          past = sym (ap past_sign (at_byte s at h) ∙ ap (λ (t : Bool). cond t bs (cond (eqb b 43) bs (b ∷ bs))) (eq-eqb b 45 e));
          within = next;
        }

    pub sign_plus : (b ≡ 45 → ⊥) → b ≡ 43 → SignAt s at false (at + 1)
    sign_plus f e =
        record {
          is = sym (ap is_minus (at_byte s at h) ∙ ne_eqb b 45 f);
          past = sym (ap past_sign (at_byte s at h) ∙ ap (λ (t : Bool). cond t bs (cond (eqb b 43) bs (b ∷ bs))) (ne_eqb b 45 f) ∙ ap (λ (t : Bool). cond t bs (b ∷ bs)) (eq-eqb b 43 e));
          within = next;
        }

    pub sign_plain : (b ≡ 45 → ⊥) → (b ≡ 43 → ⊥) → SignAt s at false at
    sign_plain f g =
        record {
          is = sym (ap is_minus (at_byte s at h) ∙ ne_eqb b 45 f);
          past = at_byte s at h ∙ sym (ap past_sign (at_byte s at h) ∙ ap (λ (t : Bool). cond t bs (cond (eqb b 43) bs (b ∷ bs))) (ne_eqb b 45 f) ∙ ap (λ (t : Bool). cond t bs (b ∷ bs)) (ne_eqb b 43 g));
          within = omega arith;
        }

-- ---- a point
pub point_end : (s : List ℕ) (at : ℕ) → at ≤ length s → at ≡ length s → false ≡ is_point (drop at s)
point_end s at h e = sym (ap is_point (at-end s at h (le_of_eq (sym e))))

pub point_at : (s : List ℕ) (at : ℕ) → at < length s → eqb (get_or s at 0) 46 ≡ is_point (drop at s)
point_at s at h = sym (ap is_point (at_byte s at h))

-- ---- digits
pub first_run : (xs ys : List ℕ) → are_digits xs ≡ true → first_digits (xs ++ ys) ≡ xs ++ first_digits ys
unfolding are_digits first_digits
first_run [] ys h = refl
first_run (x ∷ xs) ys h =
    ap (λ (t : Bool). cond t (x ∷ first_digits (xs ++ ys)) []) (first_of (is_digit x) (are_digits xs) h)
    ∙ ap (λ (l : List ℕ). x ∷ l) (first_run xs ys (second_of (is_digit x) (are_digits xs) h))

pub past_run : (xs ys : List ℕ) → are_digits xs ≡ true → past_digits (xs ++ ys) ≡ past_digits ys
unfolding are_digits past_digits
past_run [] ys h = refl
past_run (x ∷ xs) ys h = ap (λ (t : Bool). cond t (past_digits (xs ++ ys)) (x ∷ (xs ++ ys))) (first_of (is_digit x) (are_digits xs) h) ∙ past_run xs ys (second_of (is_digit x) (are_digits xs) h)

pub stops_end : Stops []
unfolding first_digits past_digits
stops_end = record { none = refl; same = refl }

pub stops_byte : (b : ℕ) (bs : List ℕ) → is_digit b ≡ false → Stops (b ∷ bs)
unfolding first_digits past_digits
stops_byte b bs h = record { none = ap (λ (t : Bool). cond t (b ∷ first_digits bs) []) h; same = ap (λ (t : Bool). cond t (past_digits bs) (b ∷ bs)) h }

-- ---- digits that were passed
pub passed_none : (s : List ℕ) (from : ℕ) → from ≤ length s → Passed s from [] from
unfolding are_digits
passed_none s from h = record { is = refl; all = refl; at = omega arith; within = h }

pub passed_join : (s : List ℕ) (from : ℕ) (xs : List ℕ) (i : ℕ) (ys : List ℕ) (j : ℕ) → Passed s from xs i → Passed s i ys j → Passed s from (xs ++ ys) j
passed_join s from xs i ys j p q =
    record {
      is = p.is ∙ ap (λ (l : List ℕ). xs ++ l) q.is ∙ sym (append_assoc xs ys (drop j s));
      all = both_digits xs ys p.all q.all;
      at = joined (length xs) (length ys) p.at q.at ∙ ap (λ (x : ℕ). from + x) (sym (length-append xs ys));
      within = q.within;
    }
  where
    joined : (m n : ℕ) → i ≡ from + m → j ≡ i + n → j ≡ from + (m + n)
    joined m n e f = omega arith

module _ (s : List ℕ) (from : ℕ) (xs : List ℕ) (i : ℕ) (p : Passed s from xs i) where
  pub passed_next : i < length s → 48 ≤ get_or s i 0 → get_or s i 0 ≤ 57 → Passed s from (xs ++ (get_or s i 0 ∷ [])) (i + 1)
  unfolding are_digits
  passed_next h a b =
      record {
        is = p.is ∙ ap (λ (l : List ℕ). xs ++ l) (at_byte s i h) ∙ sym (append_assoc xs (get_or s i 0 ∷ []) (drop (i + 1) s));
        all = both_digits xs (get_or s i 0 ∷ []) p.all (simp (digit (get_or s i 0) a b));
        at = ap (λ (x : ℕ). x + 1) p.at ∙ further from (length xs) ∙ ap (λ (x : ℕ). from + x) (sym (length-append xs (get_or s i 0 ∷ [])));
        within = omega arith;
      }
    where
      further : (x y : ℕ) → x + y + 1 ≡ x + (y + 1)
      further x y = omega arith

  -- and no more follow
  module _ (t : Stops (drop i s)) where
    pub passed_are : first_digits (drop from s) ≡ xs
    passed_are = ap first_digits p.is ∙ first_run xs (drop i s) p.all ∙ ap (λ (l : List ℕ). xs ++ l) t.none ∙ append-nil xs

    pub passed_to : DigitsTo s from i
    passed_to =
        record {
          past = sym (ap past_digits p.is ∙ past_run xs (drop i s) p.all ∙ t.same);
          many = p.at ∙ ap (λ (l : List ℕ). from + length l) (sym passed_are);
          within = p.within;
        }

  pub stops_at : i < length s → is_digit (get_or s i 0) ≡ false → Stops (drop i s)
  stops_at h e = subst Stops (sym (at_byte s i h)) (stops_byte (get_or s i 0) (drop (i + 1) s) e)

  pub stops_over : length s ≤ i → Stops (drop i s)
  stops_over h = subst Stops (sym (at-end s i p.within h)) stops_end
