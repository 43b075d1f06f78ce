-- The order of two fractions of either sign, as one of products of whole numbers: a statement, the test that says the same, and that it is transitive. Assumes nothing.
use mathlib.Core.Path.{◌≡◌, refl, sym, ap, ◌∙◌}
use mathlib.Core.Logic.{◌⊎◌, inl, inr}
use Prim.Native.Nat.{ℕ, ◌+◌, ◌*◌, ◌≤◌, ◌<◌}
use native.Mathlib.Nat.{le_of_lt, le_of_eq, eq-zero-or-pos, zero-mul, mul-pos}
use native.Mathlib.Omega.{arith}
use mathlib.Core.Bool.{Bool, true, false, ◌&&◌, ◌||◌}
use lib.Dec.{T, ltb, eqb, eqb→eq, ltb→lt, lt→ltb}
use lib.Ieee.{below, level}
use lib.Ieee.Fits.{and_l, and_r, and_i, eq→eqb}
use lib.Ieee.Positive.{through}
use borrow.Author.Tests.{ltb-true, ltb-false}

-- ---- ±a ≤ ±b, as a statement on numbers
abbrev pub LeP : Bool → ℕ → Bool → ℕ → Type 0
LeP false a false b = a ≤ b
LeP false a true b = (a ≡ 0) × (b ≡ 0)
LeP true a false b = Unit
LeP true a true b = b ≤ a

pub or_split : (a b : Bool) → T (a || b) → T a ⊎ T b
or_split true b t = inl tt
or_split false b t = inr t

pub or_r : (a b : Bool) → T b → T (a || b)
or_r true b t = tt
or_r false b t = t

pub or_l : (a b : Bool) → T a → T (a || b)
or_l true b t = tt
or_l false b t = absurd t

pub P_from_le : (s : Bool) (a : ℕ) (t : Bool) (b : ℕ) → T (below s a t b || level s a t b) → LeP s a t b
P_from_le false a false b h = elim (or_split (ltb a b) (eqb a b && true) h) [ inl u ↦ le_of_lt (ltb→lt a b u) | inr u ↦ le_of_eq (eqb→eq a b (and_l (eqb a b) true u)) ]
P_from_le false a true b h =
    let z : a ≡ 0 = eqb→eq a 0 (and_r (eqb a b) (eqb a 0) h) in
    let e : a ≡ b = eqb→eq a b (and_l (eqb a b) (eqb a 0) h) in
    (z, omega arith)
P_from_le true a false b h = tt
P_from_le true a true b h = elim (or_split (ltb b a) (eqb a b && true) h) [ inl u ↦ le_of_lt (ltb→lt b a u) | inr u ↦ le_of_eq (sym (eqb→eq a b (and_l (eqb a b) true u))) ]

pub split : (a b : ℕ) → a ≤ b → (a < b) ⊎ (a ≡ b)
split a b h = go (ltb a b) refl
  where
    go : (t : Bool) → ltb a b ≡ t → (a < b) ⊎ (a ≡ b)
    go true e = inl (ltb-true a b e)
    go false e = let k : b ≤ a = ltb-false a b e in inr (omega arith)

pub same : (a b : ℕ) → a ≡ b → T (eqb a b)
same a b e = eq→eqb e

pub le_from_P : (s : Bool) (a : ℕ) (t : Bool) (b : ℕ) → LeP s a t b → T (below s a t b || level s a t b)
le_from_P false a false b h = elim (split a b h) [ inl u ↦ or_l (ltb a b) (eqb a b && true) (lt→ltb a b u) | inr u ↦ or_r (ltb a b) (eqb a b && true) (and_i (eqb a b) true (eq→eqb u) tt) ]
le_from_P false a true b h = and_i (eqb a b) (eqb a 0) (same a b (omega arith)) (same a 0 h.0)
le_from_P true a false b h =
    elim (eq-zero-or-pos (a + b)) [
      | inl z ↦ or_r (ltb 0 (a + b)) (eqb a b && eqb a 0) (and_i (eqb a b) (eqb a 0) (same a b (omega arith)) (same a 0 (omega arith)))
      | inr p ↦ or_l (ltb 0 (a + b)) (eqb a b && eqb a 0) (lt→ltb 0 (a + b) p)
    ]
le_from_P true a true b h = elim (split b a h) [ inl u ↦ or_l (ltb b a) (eqb a b && true) (lt→ltb b a u) | inr u ↦ or_r (ltb b a) (eqb a b && true) (and_i (eqb a b) true (eq→eqb (sym u)) tt) ]

-- ---- transitivity on fractions
pub zero_of : (a q : ℕ) → 0 < q → a * q ≡ 0 → a ≡ 0
zero_of a q Q h = elim (eq-zero-or-pos a) [ inl z ↦ z | inr p ↦ let w : 0 < a * q = mul-pos p Q in omega arith ]

times : (a r : ℕ) → a ≡ 0 → a * r ≡ 0
times a r z = ap (λ (n : ℕ). n * r) z ∙ zero-mul r

none : (a : ℕ) → a ≤ 0 → a ≡ 0
none a h = omega arith

pub P_trans : (s t u : Bool) (a p b q c r : ℕ) → 0 < p → 0 < q → 0 < r → LeP s (a * q) t (b * p) → LeP t (b * r) u (c * q) → LeP s (a * r) u (c * p)
P_trans false false false a p b q c r P Q R h k = through a b c p q r Q h k
P_trans false false true a p b q c r P Q R h k =
    let bz : b * p ≡ 0 = times b p (zero_of b r R k.0) in
    let az : a * q ≡ 0 = omega arith in
    (times a r (zero_of a q Q az), times c p (zero_of c q Q k.1))
P_trans false true false a p b q c r P Q R h k = let z : a * r ≡ 0 = times a r (zero_of a q Q h.0) in omega arith
P_trans false true true a p b q c r P Q R h k =
    let bz : b * r ≡ 0 = times b r (zero_of b p P h.1) in
    let cz : c * q ≡ 0 = omega arith in
    (times a r (zero_of a q Q h.0), times c p (zero_of c q Q cz))
P_trans true false false a p b q c r P Q R h k = tt
P_trans true false true a p b q c r P Q R h k = let z : c * p ≡ 0 = times c p (zero_of c q Q k.1) in omega arith
P_trans true true false a p b q c r P Q R h k = tt
P_trans true true true a p b q c r P Q R h k = through c b a r q p Q k h
