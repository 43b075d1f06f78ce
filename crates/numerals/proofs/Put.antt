-- Digits put into a list from the last one on, and a text at the front of zeros. Assumes nothing.
use mathlib.Core.Path.{◌≡◌, refl, sym, ap, ◌∙◌, subst}
use mathlib.Core.Bool.{Bool, true, false}
use mathlib.Core.List.{List, [], ◌∷◌, ◌++◌, append_assoc}
use Prim.Native.Nat.{ℕ, zero, suc, ◌+◌, ◌-◌, ◌/◌, ◌%◌, ◌^◌, ◌≤◌, ◌<◌, max}
use native.Mathlib.Nat.{not-suc-le-zero, le_of_suc-le-suc, max-le, zero-add, sub-zero, div-div-eq-div-mul, div-one, pow-suc}
use native.Mathlib.Omega.{arith}
use lib.ListN.{length, take, drop, set, replicate, length-append, length-drop, take-append-drop}
use lib.Seq.{sets, sets-eq, length-take-le}
use native.Mathlib.Numerals.{add-one}
use Rattle.slices.proofs.Stores.{sets-append}
use Rattle.numerals.specs.Written.{digits, plain_decimal, signed, TextIs}

-- a store just before the seam
set_seam : (o t : List ℕ) (n v : ℕ) → n < length o → set (take (suc n) o ++ t) n v ≡ take n o ++ (v ∷ t)
set_seam [] t n v h = absurd (not-suc-le-zero h)
set_seam (b ∷ o) t zero v h = refl
set_seam (b ∷ o) t (suc n) v h = ap (λ (l : List ℕ). b ∷ l) (set_seam o t n v (le_of_suc-le-suc h))

pub digits-length : (w x : ℕ) → length (digits w x) ≡ w
unfolding digits
digits-length zero x = refl
digits-length (suc w) x = ap suc (digits-length w x)

-- ---- the loop: from the place i on the digits are there
abbrev pub at_digits : List ℕ → ℕ → ℕ → ℕ → ℕ → List ℕ
at_digits o at w x i = take (at + i) o ++ (digits (w - i) x ++ drop (at + w) o)

pub record Putting (o : List ℕ) (at w x : ℕ) (out : List ℕ) (i y : ℕ) : Type 0 where
  pub is : out ≡ at_digits o at w x i
  pub value : y ≡ x / 10 ^ (w - i)
  pub left : i ≤ w

pub put_start : (o : List ℕ) (at w x : ℕ) → Putting o at w x o w x
unfolding digits
put_start o at w x =
    let z : w - w ≡ 0 = omega arith in
    record {
      is = sym (ap (λ (n : ℕ). take (at + w) o ++ (digits n x ++ drop (at + w) o)) z ∙ take-append-drop (at + w) o);
      value = sym (ap (λ (n : ℕ). x / 10 ^ n) z ∙ div-one x);
      left = omega arith;
    }

module _ (o : List ℕ) (at w x : ℕ) (out : List ℕ) (i y : ℕ) (fits : at + w ≤ length o) (h : Putting o at w x out i y) where
  pub put_length : length out ≡ length o
  put_length =
      let l = h.left in
      let a : length (take (at + i) o) ≡ at + i = length-take-le (at + i) o (omega arith) in
      let b : length (digits (w - i) x ++ drop (at + w) o) ≡ length (digits (w - i) x) + length (drop (at + w) o) = length-append (digits (w - i) x) (drop (at + w) o) in
      let c = digits-length (w - i) x in
      let d : length (drop (at + w) o) ≡ length o - (at + w) = length-drop (at + w) o in
      let e : length (at_digits o at w x i) ≡ length (take (at + i) o) + length (digits (w - i) x ++ drop (at + w) o) = length-append (take (at + i) o) (digits (w - i) x ++ drop (at + w) o) in
      ap length h.is ∙ omega arith

  pub put_turn : 0 < i → Putting o at w x (set out (at + (i - 1)) (48 + y % 10)) (i - 1) (y / 10)
  unfolding digits
  put_turn l =
      let g = h.left in
      let a : at + i ≡ suc (at + (i - 1)) = omega arith in
      let b : w - (i - 1) ≡ suc (w - i) = omega arith in
      record {
        is =
            ap (λ (t : List ℕ). set t (at + (i - 1)) (48 + y % 10)) (h.is ∙ ap (λ (n : ℕ). take n o ++ (digits (w - i) x ++ drop (at + w) o)) a)
            ∙ set_seam o (digits (w - i) x ++ drop (at + w) o) (at + (i - 1)) (48 + y % 10) (omega arith)
            ∙ ap (λ (v : ℕ). take (at + (i - 1)) o ++ ((48 + v % 10) ∷ (digits (w - i) x ++ drop (at + w) o))) h.value
            ∙ ap (λ (n : ℕ). take (at + (i - 1)) o ++ (digits n x ++ drop (at + w) o)) (sym b);
        value = ap (λ (v : ℕ). v / 10) h.value ∙ div-div-eq-div-mul x (10 ^ (w - i)) 10 ∙ ap (λ (v : ℕ). x / v) (sym (pow-suc 10 (w - i))) ∙ ap (λ (n : ℕ). x / 10 ^ n) (sym b);
        left = omega arith;
      }

  pub put_end : i ≡ 0 → out ≡ sets o at (digits w x)
  put_end e =
      let a : at + i ≡ at = omega arith in
      let b : w - i ≡ w = omega arith in
      let n = digits-length w x in
      h.is
      ∙ ap (λ (n : ℕ). take n o ++ (digits (w - i) x ++ drop (at + w) o)) a
      ∙ ap (λ (n : ℕ). take at o ++ (digits n x ++ drop (at + w) o)) b
      ∙ ap (λ (n : ℕ). take at o ++ (digits w x ++ drop (at + n) o)) (sym n)
      ∙ sym (append_assoc (take at o) (digits w x) (drop (at + length (digits w x)) o))
      ∙ sym (sets-eq (digits w x) o at (omega arith))

-- ---- digits, the point, digits
pub plain_is : (o o1 o3 : List ℕ) (at w k d ten : ℕ) → o1 ≡ sets o at (digits w (d / ten)) → o3 ≡ sets (set o1 (at + w) 46) (at + w + 1) (digits k d) → ten ≡ 10 ^ k → w ≡ max 1 (9 - k)
    → o3 ≡ sets o at (plain_decimal d k)
unfolding plain_decimal
plain_is o o1 o3 at w k d ten e f t g =
    let q = digits w (d / ten) in
    f
    ∙ ap (λ (n : ℕ). sets (set o1 (at + w) 46) n (digits k d)) (add-one (at + w))
    ∙ ap (λ (l : List ℕ). sets l (at + w) (46 ∷ digits k d)) e
    ∙ ap (λ (n : ℕ). sets (sets o at q) (at + n) (46 ∷ digits k d)) (sym (digits-length w (d / ten)))
    ∙ sym (sets-append o at q (46 ∷ digits k d))
    ∙ ap (λ (n : ℕ). sets o at (digits n (d / ten) ++ (46 ∷ digits k d))) g
    ∙ ap (λ (n : ℕ). sets o at (digits (max 1 (9 - k)) (d / n) ++ (46 ∷ digits k d))) t

pub plain_length : (d k : ℕ) → length (plain_decimal d k) ≡ max 1 (9 - k) + 1 + k
unfolding plain_decimal
plain_length d k =
    length-append (digits (max 1 (9 - k)) (d / 10 ^ k)) (46 ∷ digits k d)
    ∙ omega (arith, digits-length (max 1 (9 - k)) (d / 10 ^ k), digits-length k d)

-- ---- a text at the front of 18 zeros
zeros_left : (n m : ℕ) → drop n (replicate {A = ℕ} m 0) ≡ replicate (m - n) 0
zeros_left zero m = ap (λ (n : ℕ). replicate n 0) (sym (sub-zero m))
zeros_left (suc n) zero = ap (λ (i : ℕ). replicate i 0) (sym (none n))
  where
    none : (x : ℕ) → 0 - suc x ≡ 0
    none x = omega arith
zeros_left (suc n) (suc m) = zeros_left n m ∙ ap (λ (i : ℕ). replicate i 0) (sym (less m n))
  where
    less : (x y : ℕ) → suc x - suc y ≡ x - y
    less x y = omega arith

pub text_put : (t bytes : List ℕ) (len : ℕ) → length t ≤ 18 → len ≡ length t → bytes ≡ sets (replicate 18 0) 0 t → TextIs t bytes len
text_put t bytes len h l e = record {
  long = l;
  is = e ∙ sets-eq t (replicate 18 0) 0 (omega arith) ∙ ap (λ (n : ℕ). t ++ drop n (replicate 18 0)) (zero-add (length t)) ∙ ap (λ (r : List ℕ). t ++ r) (zeros_left (length t) 18);
}

pub text_none : (t bytes : List ℕ) (len : ℕ) → t ≡ [] → bytes ≡ replicate 18 0 → len ≡ 0 → TextIs t bytes len
text_none t bytes len h e l = subst (λ (x : List ℕ). TextIs x bytes len) (sym h) (text_put [] bytes len (omega arith) l e)

pub text_as : (t u bytes : List ℕ) (len : ℕ) → t ≡ u → TextIs t bytes len → TextIs u bytes len
text_as t u bytes len e h = subst (λ (x : List ℕ). TextIs x bytes len) e h

-- the sign before it, and none
short : (k n : ℕ) → k ≤ 15 → n ≡ max 1 (9 - k) + 1 + k → n ≤ 17
short k n h e = let m : max 1 (9 - k) ≤ 16 - k = max-le (omega arith) (omega arith) in omega arith

pub minus_put : (s : Bool) (d k len : ℕ) (u bytes : List ℕ) → s ≡ true → u ≡ plain_decimal d k → k ≤ 15 → len ≡ 1 + length (plain_decimal d k) → bytes ≡ sets (set (replicate 18 0) 0 45) 1 (plain_decimal d k) → TextIs (signed s u) bytes len
unfolding signed
minus_put s d k len u bytes e f h l b =
    text_as (45 ∷ plain_decimal d k) (signed s u) bytes len (sym (ap (λ (b : Bool). signed b u) e ∙ ap (λ (l : List ℕ). 45 ∷ l) f))
    (text_put (45 ∷ plain_decimal d k) bytes len (omega (arith, short k (length (plain_decimal d k)) h (plain_length d k))) (omega arith) b)

pub plus_put : (s : Bool) (d k len : ℕ) (u bytes : List ℕ) → s ≡ false → u ≡ plain_decimal d k → k ≤ 15 → len ≡ 0 + length (plain_decimal d k) → bytes ≡ sets (replicate 18 0) 0 (plain_decimal d k) → TextIs (signed s u) bytes len
unfolding signed
plus_put s d k len u bytes e f h l b =
    text_as (plain_decimal d k) (signed s u) bytes len (sym (ap (λ (b : Bool). signed b u) e ∙ f))
    (text_put (plain_decimal d k) bytes len (omega (arith, short k (length (plain_decimal d k)) h (plain_length d k))) (l ∙ zero-add (length (plain_decimal d k))) b)
