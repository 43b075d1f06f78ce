-- What a number's text is made of, and how long it is: digits, a point, a sign; at most 18 bytes, and some where it can be written. Assumes nothing.
use mathlib.Core.Path.{◌≡◌, sym}
use mathlib.Core.Bool.{Bool, true, false, true≢false, cond}
use mathlib.Core.List.{List, [], ◌∷◌, ◌++◌}
use Prim.Native.Nat.{ℕ, zero, suc, ◌+◌, ◌-◌, ◌*◌, ◌/◌, ◌^◌, ◌≤◌, ◌<◌, max}
use native.Mathlib.Nat.{max-le}
use native.Mathlib.Omega.{arith}
use lib.Dec.{leb, eqb}
use lib.ListN.{length}
use lib.Ieee.{Float, nan, inf, fin, up, down}
use lib.Ieee.Nearest.{closest}
use Rattle.numerals.specs.Written.{digits, plain_decimal, places, nine, in_range, writable, signed, text_of}
use Rattle.numerals.proofs.Put.{plain_length}

-- ---- every byte is a digit, the point or the sign: none of them is white space
unfoldable pub Marks : List ℕ → Type 0
Marks [] = Unit {0}
Marks (b ∷ bs) = (45 ≤ b) × (b ≤ 57) × Marks bs

pub marks_append : (xs ys : List ℕ) → Marks xs → Marks ys → Marks (xs ++ ys)
unfolding Marks
marks_append [] ys h k = k
marks_append (x ∷ xs) ys h k = (h.0, h.1, marks_append xs ys h.2 k)

marks_digits : (w x : ℕ) → Marks (digits w x)
unfolding Marks digits
marks_digits zero x = tt
marks_digits (suc w) x = (omega arith, omega arith, marks_digits w x)

marks_plain : (d k : ℕ) → Marks (plain_decimal d k)
unfolding Marks plain_decimal
marks_plain d k = marks_append (digits (max 1 (9 - k)) (d / 10 ^ k)) (46 ∷ digits k d) (marks_digits (max 1 (9 - k)) (d / 10 ^ k)) (omega arith, omega arith, marks_digits k d)

marks_signed : (s : Bool) (t : List ℕ) → Marks t → Marks (signed s t)
unfolding Marks signed
marks_signed true t h = (omega arith, omega arith, h)
marks_signed false t h = h

-- ---- of nine digits
places_few : (f num den from : ℕ) → places f num den from ≤ from + f
unfolding places
places_few zero num den from = omega arith
places_few (suc f) num den from = go (leb (10 ^ 8 * den) (num * 10 ^ from)) (places_few f num den (from + 1))
  where
    go : (b : Bool) → places f num den (from + 1) ≤ from + 1 + f → cond b from (places f num den (from + 1)) ≤ from + suc f
    go true h = omega arith
    go false h = omega arith

-- a property of every plain decimal of at most 15 places is one of every text of nine digits
of_nine : (P : List ℕ → Type 0) → ((d k : ℕ) → k ≤ 15 → P (plain_decimal d k)) → (num den k : ℕ) → k ≤ 15 → P (nine num den k)
unfolding nine
of_nine P h num den k l = go (eqb (closest (num * 10 ^ k) den) (10 ^ 9))
  where
    go : (b : Bool) → P (cond b (plain_decimal (10 ^ 8) (k - 1)) (plain_decimal (closest (num * 10 ^ k) den) k))
    go true = h (10 ^ 8) (k - 1) (omega arith)
    go false = h (closest (num * 10 ^ k) den) k l

-- ---- of a text: none, zero, or nine digits after the sign
of_text : (P : List ℕ → Type 0) → P [] → ((s : Bool) → P (signed s (48 ∷ []))) → ((s : Bool) (d k : ℕ) → k ≤ 15 → P (signed s (plain_decimal d k))) → (x : Float) → P (text_of x)
unfolding text_of
of_text P n z h nan = n
of_text P n z h (inf s) = n
of_text P n z h (fin s zero e) = z s
of_text P n z h (fin s (suc m) e) = go (in_range (suc m * up e) (down e))
  where
    go : (b : Bool) → P (cond b (signed s (nine (suc m * up e) (down e) (places 15 (suc m * up e) (down e) 0))) [])
    go true = of_nine (λ t. P (signed s t)) (h s) (suc m * up e) (down e) (places 15 (suc m * up e) (down e) 0) (places_few 15 (suc m * up e) (down e) 0)
    go false = n

pub text_marks : (x : Float) → Marks (text_of x)
unfolding Marks
text_marks x = of_text Marks tt (λ s. marks_signed s (48 ∷ []) (omega arith, omega arith, tt)) (λ s d k l. marks_signed s (plain_decimal d k) (marks_plain d k)) x

-- ---- how long
plain_short : (d k : ℕ) → k ≤ 15 → length (plain_decimal d k) ≤ 17
plain_short d k h = let m : max 1 (9 - k) ≤ 16 - k = max-le (omega arith) (omega arith) in omega (arith, plain_length d k)

signed_short : (s : Bool) (t : List ℕ) → length t ≤ 17 → length (signed s t) ≤ 18
unfolding signed
signed_short true t h = omega arith
signed_short false t h = omega arith

pub text_short : (x : Float) → length (text_of x) ≤ 18
text_short x = of_text (λ t. length t ≤ 18) (omega arith) (λ s. signed_short s (48 ∷ []) (omega arith)) (λ s d k l. signed_short s (plain_decimal d k) (plain_short d k l)) x

signed_some : (s : Bool) (t : List ℕ) → 0 < length t → 0 < length (signed s t)
unfolding signed
signed_some true t h = omega arith
signed_some false t h = h

pub text_some : (x : Float) → writable x ≡ true → 0 < length (text_of x)
unfolding text_of writable
text_some nan h = absurd (true≢false (sym h))
text_some (inf s) h = absurd (true≢false (sym h))
text_some (fin s zero e) h = signed_some s (48 ∷ []) (omega arith)
text_some (fin s (suc m) e) h =
    rw h (signed_some s (nine (suc m * up e) (down e) (places 15 (suc m * up e) (down e) 0))
    (of_nine (λ t. 0 < length t) (λ d k l. omega (arith, plain_length d k)) (suc m * up e) (down e) (places 15 (suc m * up e) (down e) 0) (places_few 15 (suc m * up e) (down e) 0)))
