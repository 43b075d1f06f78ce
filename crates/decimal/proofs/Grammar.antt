-- The token rule as a grammar, both ways: bytes of the form are read as the number that they write, rounded once (`grammar`), and nothing else is read as a number (`only_numbers`). Assumes nothing.
use mathlib.Core.Path.{◌≡◌, refl, sym, ap, ◌∙◌, subst}
use mathlib.Core.Logic.{◌⊎◌, inl, inr}
use mathlib.Core.Bool.{Bool, true, false, cond, ◌&&◌}
use mathlib.Core.List.{List, [], ◌∷◌, ◌++◌, append-nil}
use Prim.Native.Nat.{ℕ, ◌+◌, ◌^◌, ◌<◌}
use native.Mathlib.Nat.{lt_irrefl, le_trans, le_of_eq, lt_of_lt_of_le, lt_of_le_of_lt, zero-add}
use native.Mathlib.Omega.{arith}
use lib.Dec.{lit<, leb, eqb}
use lib.ListN.{length}
use lib.Ieee.{Float, binary32, round}
use borrow.Author.Tests.{leb-true, eqb-true}
use Rattle.decimal.specs.declared.Token.{Token}
use Rattle.decimal.specs.declared.Token.TheVariants.{Number, NoNumber}
use Rattle.decimal.specs.Decimal.{most_digits, is_digit, are_digits, value_after, before_point, after_point, number_of, unsigned_of, read_of}
use Rattle.decimal.specs.Form.{Sign, none, plus, minus, Rest, nothing, point, Form}
use Rattle.decimal.proofs.Parts.{whole_number, point_number, number_is, no_digit, first_of, second_of, split, both_digits, value_lt}
use Rattle.decimal.proofs.Scale.{ten_le}

after_sign : {rest ys : List ℕ} (neg : Bool) (xs : List ℕ) → Rest rest ys → are_digits xs ≡ true → are_digits ys ≡ true → unsigned_of neg (xs ++ rest) ≡ number_of neg (value_after 0 (xs ++ ys)) (length (xs ++ ys)) (length ys)
after_sign neg xs nothing h k = rw append-nil (whole_number neg xs h)
after_sign neg xs (point {ys}) h k = point_number neg xs h ys k

sign_read : {sign rest ys : List ℕ} {neg : Bool} → Sign sign neg → (xs : List ℕ) → Rest rest ys → are_digits xs ≡ true → 0 < length (xs ++ ys) → read_of (sign ++ (xs ++ rest)) ≡ unsigned_of neg (xs ++ rest)
unfolding read_of are_digits
sign_read none [] nothing h l = absurd (lt_irrefl 0 l)
sign_read none [] point h l = refl
sign_read none (x ∷ xs) r h l =
    let d = first_of (is_digit x) (are_digits xs) h in
    simp (no_digit x 45 d refl, no_digit x 43 d refl)
sign_read plus xs r h l = refl
sign_read minus xs r h l = refl

pub grammar : {s : List ℕ} {neg : Bool} {d k : ℕ} → Form s neg d k → read_of s ≡ Number (round binary32 neg d (10 ^ k))
grammar {neg = neg} {d = d} f =
    let all = f.before ++ f.after in
    ap read_of f.is
    ∙ sign_read f.signed f.before f.ends f.digits.0 f.some
    ∙ after_sign neg f.before f.ends f.digits.0 f.digits.1
    ∙ number_is neg (value_after 0 all) (length all) (length f.after) f.some f.few
    ∙ ap (λ (d : ℕ). Number (round binary32 neg d (10 ^ length f.after))) (sym f.value)
    ∙ ap (λ (k : ℕ). Number (round binary32 neg d (10 ^ k))) (sym f.places)

-- at most 18 digits
pub form_small : {s : List ℕ} {neg : Bool} {d k : ℕ} → Form s neg d k → d < 10 ^ most_digits
form_small f =
    let all = f.before ++ f.after in
    let ds : are_digits all ≡ true = both_digits f.before f.after f.digits.0 f.digits.1 in
    lt_of_lt_of_le (lt_of_le_of_lt (le_of_eq f.value) (value_lt 0 0 all ds (lit< tt))) (ten_le (0 + length all) most_digits (le_trans (le_of_eq (zero-add (length all))) f.few))

-- ---- the other way: any bytes are what stands before the first point, and a rest

record Halves (s before after : List ℕ) : Type 0 where
  pub rest : List ℕ
  pub ends : Rest rest after
  pub is : s ≡ before ++ rest

halves : (s : List ℕ) → Halves s (before_point s) (after_point s)
unfolding before_point after_point
halves [] = record { rest = []; ends = nothing; is = refl }
halves (b ∷ bs) = go (eqb b 46) refl (halves bs)
  where
    go : (t : Bool) → eqb b 46 ≡ t → Halves bs (before_point bs) (after_point bs) → Halves (b ∷ bs) (cond t [] (b ∷ before_point bs)) (cond t bs (after_point bs))
    go true e h = record { rest = b ∷ bs; ends = subst (λ (x : ℕ). Rest (x ∷ bs) bs) (sym (eqb-true b 46 e)) point; is = refl }
    go false e h = record { rest = h.rest; ends = h.ends; is = ap (λ (l : List ℕ). b ∷ l) h.is }

module _ {sign : List ℕ} {neg : Bool} (g : Sign sign neg) (body : List ℕ) where
  abbrev all : List ℕ
  all = before_point body ++ after_point body

  body_form : are_digits all ≡ true → (leb 1 (length all) && leb (length all) most_digits) ≡ true → Form (sign ++ body) neg (value_after 0 all) (length (after_point body))
  body_form h l =
      let p = halves body in
      let some = leb 1 (length all) in
      let few = leb (length all) most_digits in
      let ds = sym (split (before_point body) (after_point body)) ∙ h in
      record {
        sign = sign;
        before = before_point body;
        rest = p.rest;
        after = after_point body;
        signed = g;
        ends = p.ends;
        is = ap (λ (l : List ℕ). sign ++ l) p.is;
        digits = (first_of (are_digits (before_point body)) (are_digits (after_point body)) ds, second_of (are_digits (before_point body)) (are_digits (after_point body)) ds);
        some = leb-true 1 (length all) (first_of some few l);
        few = leb-true (length all) most_digits (second_of some few l);
        value = refl;
        places = refl;
      }

  either : Form (sign ++ body) neg (value_after 0 all) (length (after_point body)) ⊎ (unsigned_of neg body ≡ NoNumber)
  unfolding unsigned_of number_of
  either = go (are_digits all) (leb 1 (length all) && leb (length all) most_digits) (Number (round binary32 neg (value_after 0 all) (10 ^ length (after_point body)))) body_form
    where
      go : {F : Type 0} (t u : Bool) (x : Token) → (t ≡ true → u ≡ true → F) → F ⊎ (cond t (cond u x NoNumber) NoNumber ≡ NoNumber)
      go true true x f = inl (f refl refl)
      go true false x f = inr refl
      go false u x f = inr refl

-- of some sign, digits and places
abbrev pub SomeForm : List ℕ → Type 0
SomeForm s = (neg : Bool) × (d : ℕ) × (k : ℕ) × Form s neg d k

at_sign : {sign : List ℕ} {neg : Bool} → Sign sign neg → (body : List ℕ) → read_of (sign ++ body) ≡ unsigned_of neg body → SomeForm (sign ++ body) ⊎ (read_of (sign ++ body) ≡ NoNumber)
at_sign {neg = neg} g body e = elim (either g body) [ inl f ↦ inl (neg, value_after 0 (before_point body ++ after_point body), length (after_point body), f) | inr h ↦ inr (e ∙ h) ]

pub form_or_none : (s : List ℕ) → SomeForm s ⊎ (read_of s ≡ NoNumber)
unfolding read_of
form_or_none [] = inr refl
form_or_none (b ∷ bs) = go (eqb b 45) (eqb b 43) refl refl
  where
    go : (t u : Bool) → eqb b 45 ≡ t → eqb b 43 ≡ u → SomeForm (b ∷ bs) ⊎ (read_of (b ∷ bs) ≡ NoNumber)
    go true u e f = subst (λ (x : ℕ). SomeForm (x ∷ bs) ⊎ (read_of (x ∷ bs) ≡ NoNumber)) (sym (eqb-true b 45 e)) (at_sign minus bs refl)
    go false true e f = subst (λ (x : ℕ). SomeForm (x ∷ bs) ⊎ (read_of (x ∷ bs) ≡ NoNumber)) (sym (eqb-true b 43 f)) (at_sign plus bs refl)
    go false false e f = at_sign none (b ∷ bs) (simp (e, f))

pub only_numbers : (s : List ℕ) (x : Float) → read_of s ≡ Number x → (neg : Bool) × (d : ℕ) × (k : ℕ) × Form s neg d k × (x ≡ round binary32 neg d (10 ^ k))
only_numbers s x h = elim (form_or_none s) [ inl f ↦ found f | inr e ↦ absurd (clash e) ]
  where
    found : SomeForm s → (neg : Bool) × (d : ℕ) × (k : ℕ) × Form s neg d k × (x ≡ round binary32 neg d (10 ^ k))
    found f = let g = grammar f.3 in (f.0, f.1, f.2, f.3, cc)

    clash : read_of s ≡ NoNumber → ⊥
    clash e = let z : ◌≡◌ {A = ℕ} 0 1 = cc in omega arith
