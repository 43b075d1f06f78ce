-- Bytes have one form at most: the sign, the digits and how many stand after the point can be read off them (`one_form`). Assumes nothing.
use mathlib.Core.Path.{◌≡◌, refl, sym, ap, ◌∙◌, subst}
use mathlib.Core.Logic.{◌⊎◌, inl, inr}
use mathlib.Core.Bool.{Bool, true, cond}
use mathlib.Core.List.{List, [], ◌∷◌, ◌++◌, append-nil}
use Prim.Native.Nat.{ℕ, ◌<◌}
use native.Mathlib.Nat.{lt_irrefl}
use native.Mathlib.Omega.{arith}
use lib.Dec.{eqb}
use lib.ListN.{length}
use borrow.Author.Tests.{eqb-true}
use Rattle.decimal.specs.Decimal.{is_digit, are_digits, value_after, before_point, after_point}
use Rattle.decimal.specs.Long.{is_minus, past_sign}
use Rattle.decimal.specs.inner.Counted.{is_point}
use Rattle.decimal.specs.Form.{Sign, none, plus, minus, Rest, nothing, point, Form}
use Rattle.decimal.proofs.Parts.{no_digit, first_of, before_run, after_run}

-- ---- the sign, and what follows it

-- a digit or a point stands first
pub begins : {rest ys : List ℕ} (xs : List ℕ) → Rest rest ys → (tail : List ℕ) → 0 < length (xs ++ ys) → (0 < length xs) ⊎ (is_point (rest ++ tail) ≡ true)
begins [] nothing tail l = absurd (lt_irrefl 0 l)
begins (x ∷ xs) nothing tail l = inl (omega arith)
begins xs point tail l = inr refl

pub sign_off : {sign : List ℕ} {neg : Bool} → Sign sign neg → (xs rest : List ℕ) → are_digits xs ≡ true → (0 < length xs) ⊎ (is_point rest ≡ true)
    → (is_minus (sign ++ (xs ++ rest)) ≡ neg) × (past_sign (sign ++ (xs ++ rest)) ≡ xs ++ rest)
unfolding are_digits
sign_off none [] rest h (inl l) = absurd (lt_irrefl 0 l)
sign_off none [] [] h (inr e) = (refl, refl)
sign_off none [] (b ∷ bs) h (inr e) = let x = eqb-true b 46 e in (ap (λ (y : ℕ). eqb y 45) x, ap (λ (y : ℕ). cond (eqb y 45) bs (cond (eqb y 43) bs (b ∷ bs))) x)
sign_off none (x ∷ xs) rest h l =
    let d = first_of (is_digit x) (are_digits xs) h in
    (no_digit x 45 d refl, simp (no_digit x 45 d refl, no_digit x 43 d refl))
sign_off plus xs rest h l = (refl, refl)
sign_off minus xs rest h l = (refl, refl)

-- ---- the digits before the point and after it

digits_off : {rest ys : List ℕ} (xs : List ℕ) → Rest rest ys → are_digits xs ≡ true → (before_point (xs ++ rest) ≡ xs) × (after_point (xs ++ rest) ≡ ys)
unfolding before_point after_point
digits_off xs nothing h = (before_run xs [] h ∙ append-nil xs, after_run xs [] h)
digits_off xs (point {ys}) h = (before_run xs (46 ∷ ys) h ∙ append-nil xs, after_run xs (46 ∷ ys) h)

-- ---- so the form is known by the bytes

record Off (s : List ℕ) (neg : Bool) (d k : ℕ) : Type 0 where
  pub sign : is_minus s ≡ neg
  pub value : value_after 0 (before_point (past_sign s) ++ after_point (past_sign s)) ≡ d
  pub places : length (after_point (past_sign s)) ≡ k

off : {s : List ℕ} {neg : Bool} {d k : ℕ} → Form s neg d k → Off s neg d k
off {s} f =
    let a = sign_off f.signed f.before f.rest f.digits.0 (subst (λ (l : List ℕ). (0 < length f.before) ⊎ (is_point l ≡ true)) (append-nil f.rest) (begins f.before f.ends [] f.some)) in
    let b = digits_off f.before f.ends f.digits.0 in
    let e : past_sign s ≡ f.before ++ f.rest = ap past_sign f.is ∙ a.1 in
    record {
      sign = ap is_minus f.is ∙ a.0;
      value = simp (e, b.0, b.1) (sym f.value);
      places = simp (e, b.1) (sym f.places);
    }

pub one_form : {s : List ℕ} {neg sgn : Bool} {d e k l : ℕ} → Form s neg d k → Form s sgn e l → (neg ≡ sgn) × (d ≡ e) × (k ≡ l)
one_form f g =
    let a = off f in
    let b = off g in
    (sym a.sign ∙ b.sign, sym a.value ∙ b.value, sym a.places ∙ b.places)
