-- What the definition makes of a token's parts: digits, a point, digits after it, any other byte. By induction on the digits. Assumes nothing.
use mathlib.Core.Path.{◌≡◌, refl, sym, ap, ◌∙◌, subst}
use mathlib.Core.Bool.{Bool, true, false, cond, ◌&&◌, and_assoc, and-false}
use mathlib.Core.List.{List, [], ◌∷◌, ◌++◌, append_assoc, append-nil}
use Prim.Native.Nat.{ℕ, suc, ◌+◌, ◌-◌, ◌*◌, ◌^◌, ◌≤◌, ◌<◌}
use native.Mathlib.Omega.{arith}
use lib.Dec.{eqb, leb}
use lib.ListN.{length}
use lib.Ieee.{binary32, round}
use lib.Pow.{pow-add}
use borrow.Author.Tests.{leb-true, le-leb, lt-leb, ne_eqb}
use Rattle.decimal.specs.declared.Token.{Token}
use Rattle.decimal.specs.declared.Token.TheVariants.{Number, NoNumber}
use Rattle.decimal.specs.Decimal.{most_digits, is_digit, are_digits, value_after, before_point, after_point, number_of, unsigned_of}
use Rattle.decimal.specs.inner.Steps.{DigitRun}

-- ---- a byte
pub digit : (b : ℕ) → 48 ≤ b → b ≤ 57 → is_digit b ≡ true
digit b l h = simp (le-leb 48 b l, le-leb b 57 h)

pub no_digit : (b c : ℕ) → is_digit b ≡ true → is_digit c ≡ false → eqb b c ≡ false
no_digit b c h k = ne_eqb b c (λ (e : b ≡ c). let z : ◌≡◌ {A = ℕ} 0 1 = apart (sym k ∙ ap is_digit (sym e) ∙ h) in omega arith)
  where
    apart : false ≡ true → ◌≡◌ {A = ℕ} 0 1
    apart e = cc

-- ---- two flags
pub first_of : (a b : Bool) → (a && b) ≡ true → a ≡ true
first_of true b h = refl
first_of false b h = h

pub second_of : (a b : Bool) → (a && b) ≡ true → b ≡ true
second_of true b h = h
second_of false b h = cc

-- ---- digits and more digits
pub split : (xs ys : List ℕ) → are_digits (xs ++ ys) ≡ (are_digits xs && are_digits ys)
unfolding are_digits
split [] ys = refl
split (x ∷ xs) ys = ap (λ (t : Bool). is_digit x && t) (split xs ys) ∙ sym (and_assoc (is_digit x) (are_digits xs) (are_digits ys))

pub both_digits : (xs ys : List ℕ) → are_digits xs ≡ true → are_digits ys ≡ true → are_digits (xs ++ ys) ≡ true
both_digits xs ys h k = simp (split, h, k)

not_digits : (xs : List ℕ) (b : ℕ) (ys : List ℕ) → is_digit b ≡ false → are_digits (xs ++ (b ∷ ys)) ≡ false
unfolding are_digits
not_digits xs b ys h = split xs (b ∷ ys) ∙ ap (λ (t : Bool). are_digits xs && (t && are_digits ys)) h ∙ and-false (are_digits xs)

pub value_split : (v : ℕ) (xs ys : List ℕ) → value_after v (xs ++ ys) ≡ value_after (value_after v xs) ys
unfolding value_after
value_split v [] ys = refl
value_split v (x ∷ xs) ys = value_split (v * 10 + (x - 48)) xs ys

-- n digits make a number below 10 ^ n
pub value_lt : (v i : ℕ) (xs : List ℕ) → are_digits xs ≡ true → v < 10 ^ i → value_after v xs < 10 ^ (i + length xs)
unfolding are_digits value_after
value_lt v i [] h l = subst (λ (x : ℕ). v < 10 ^ x) (none i) l
  where
    none : (x : ℕ) → x ≡ x + 0
    none x = omega arith
value_lt v i (b ∷ bs) h l =
    let t : b ≤ 57 = leb-true b 57 (second_of (leb 48 b) (leb b 57) (first_of (is_digit b) (are_digits bs) h)) in
    let e : 10 ^ (i + 1) ≡ 10 ^ i * 10 = pow-add 10 i 1 in
    subst (λ (x : ℕ). value_after (v * 10 + (b - 48)) bs < 10 ^ x) (further i (length bs)) (value_lt (v * 10 + (b - 48)) (i + 1) bs (second_of (is_digit b) (are_digits bs) h) (omega arith))
  where
    further : (x y : ℕ) → x + 1 + y ≡ x + suc y
    further x y = omega arith

pub digits_none : (v : ℕ) (s : List ℕ) → DigitRun v s v s
unfolding are_digits value_after
digits_none v s = record { run = []; is = refl; all = refl; makes = refl }

pub digits_more : (before : ℕ) (s : List ℕ) (v b : ℕ) (rest : List ℕ) → DigitRun before s v (b ∷ rest) → is_digit b ≡ true → DigitRun before s (v * 10 + (b - 48)) rest
unfolding are_digits value_after
digits_more before s v b rest d h =
    record {
      run = d.run ++ (b ∷ []);
      is = d.is ∙ sym (append_assoc d.run (b ∷ []) rest);
      all = both_digits d.run (b ∷ []) d.all (simp h);
      makes = ap (λ (x : ℕ). x * 10 + (b - 48)) d.makes ∙ sym (value_split before d.run (b ∷ []));
    }

-- ---- before and after the point
pub before_run : (xs ys : List ℕ) → are_digits xs ≡ true → before_point (xs ++ ys) ≡ xs ++ before_point ys
unfolding are_digits before_point
before_run [] ys h = refl
before_run (x ∷ xs) ys h =
    ap (λ (t : Bool). cond t [] (x ∷ before_point (xs ++ ys))) (no_digit x 46 (first_of (is_digit x) (are_digits xs) h) refl)
    ∙ ap (λ (r : List ℕ). x ∷ r) (before_run xs ys (second_of (is_digit x) (are_digits xs) h))

pub after_run : (xs ys : List ℕ) → are_digits xs ≡ true → after_point (xs ++ ys) ≡ after_point ys
unfolding are_digits after_point
after_run [] ys h = refl
after_run (x ∷ xs) ys h =
    ap (λ (t : Bool). cond t (xs ++ ys) (after_point (xs ++ ys))) (no_digit x 46 (first_of (is_digit x) (are_digits xs) h) refl)
    ∙ after_run xs ys (second_of (is_digit x) (are_digits xs) h)

-- ---- what the definition makes of the parts that it takes apart
module _ (neg : Bool) (s before after : List ℕ) (b_is : before_point s ≡ before) (a_is : after_point s ≡ after) where
  is_number : are_digits (before ++ after) ≡ true → unsigned_of neg s ≡ number_of neg (value_after 0 (before ++ after)) (length (before ++ after)) (length after)
  unfolding unsigned_of
  is_number h = simp (b_is, a_is, h)

  is_none : are_digits (before ++ after) ≡ false → unsigned_of neg s ≡ NoNumber
  unfolding unsigned_of
  is_none h = simp (b_is, a_is, h)

-- digits alone, or with a point, make the number that they are, over 10 for each digit after the point
module _ (neg : Bool) (xs : List ℕ) (h : are_digits xs ≡ true) where
  pub whole_number : unsigned_of neg xs ≡ number_of neg (value_after 0 xs) (length xs) 0
  unfolding before_point after_point
  whole_number =
      subst (λ (l : List ℕ). unsigned_of neg l ≡ number_of neg (value_after 0 l) (length l) 0) (append-nil xs)
      (subst (λ (l : List ℕ). unsigned_of neg (xs ++ []) ≡ number_of neg (value_after 0 l) (length l) 0) (append-nil (xs ++ []))
      (is_number neg (xs ++ []) (xs ++ []) [] (before_run xs [] h) (after_run xs [] h) (simp (append-nil, h))))

  pub point_number : (ys : List ℕ) → are_digits ys ≡ true → unsigned_of neg (xs ++ (46 ∷ ys)) ≡ number_of neg (value_after 0 (xs ++ ys)) (length (xs ++ ys)) (length ys)
  unfolding before_point after_point
  point_number ys k = is_number neg (xs ++ (46 ∷ ys)) xs ys (before_run xs (46 ∷ ys) h ∙ append-nil xs) (after_run xs (46 ∷ ys) h) (both_digits xs ys h k)

  -- any other byte makes no number
  pub other_byte : (b : ℕ) (rest : List ℕ) → is_digit b ≡ false → (b ≡ 46 → ⊥) → unsigned_of neg (xs ++ (b ∷ rest)) ≡ NoNumber
  unfolding before_point
  other_byte b rest f g =
      let t : before_point (b ∷ rest) ≡ b ∷ before_point rest = simp (ne_eqb b 46 g) in
      is_none neg (xs ++ (b ∷ rest)) (xs ++ (b ∷ before_point rest)) (after_point (xs ++ (b ∷ rest)))
      (before_run xs (b ∷ rest) h ∙ ap (λ (l : List ℕ). xs ++ l) t)
      refl
      (ap are_digits (append_assoc xs (b ∷ before_point rest) (after_point (xs ++ (b ∷ rest)))) ∙ not_digits xs b (before_point rest ++ after_point (xs ++ (b ∷ rest))) f)

  pub after_byte : (ys : List ℕ) (b : ℕ) (rest : List ℕ) → is_digit b ≡ false → unsigned_of neg (xs ++ (46 ∷ (ys ++ (b ∷ rest)))) ≡ NoNumber
  unfolding before_point after_point
  after_byte ys b rest f =
      is_none neg (xs ++ (46 ∷ (ys ++ (b ∷ rest)))) xs (ys ++ (b ∷ rest))
      (before_run xs (46 ∷ (ys ++ (b ∷ rest))) h ∙ append-nil xs)
      (after_run xs (46 ∷ (ys ++ (b ∷ rest))) h)
      (ap are_digits (sym (append_assoc xs ys (b ∷ rest))) ∙ not_digits (xs ++ ys) b rest f)

-- ---- how many digits
pub number_none : (neg : Bool) (d n k : ℕ) → n ≡ 0 → number_of neg d n k ≡ NoNumber
unfolding number_of
number_none neg d n k e = simp e

pub number_long : (neg : Bool) (d n k : ℕ) → most_digits < n → number_of neg d n k ≡ NoNumber
unfolding number_of
number_long neg d n k l = let one : 1 ≤ n = omega arith in simp (le-leb 1 n one, lt-leb n most_digits l)

pub number_is : (neg : Bool) (d n k : ℕ) → 0 < n → n ≤ most_digits → number_of neg d n k ≡ Number (round binary32 neg d (10 ^ k))
unfolding number_of
number_is neg d n k l h = simp (le-leb 1 n l, le-leb n most_digits h)

-- of a token's bytes the point is the only one that is neither before it nor after it
counted : (s : List ℕ) → length s ≤ length (before_point s ++ after_point s) + 1
unfolding before_point after_point
counted [] = omega arith
counted (b ∷ bs) = go (eqb b 46) (counted bs)
  where
    go : (t : Bool) → length bs ≤ length (before_point bs ++ after_point bs) + 1 → suc (length bs) ≤ length (cond t [] (b ∷ before_point bs) ++ cond t bs (after_point bs)) + 1
    go true h = omega arith
    go false h = omega arith

pub too_long : (neg : Bool) (s : List ℕ) → most_digits + 1 < length s → unsigned_of neg s ≡ NoNumber
unfolding unsigned_of
too_long neg s h =
    let digits = before_point s ++ after_point s in
    let n : most_digits < length digits = omega (arith, counted s) in
    go (are_digits digits) (number_of neg (value_after 0 digits) (length digits) (length (after_point s))) (number_long neg (value_after 0 digits) (length digits) (length (after_point s)) n)
  where
    go : (t : Bool) (x : Token) → x ≡ NoNumber → cond t x NoNumber ≡ NoNumber
    go true x e = e
    go false x e = refl
