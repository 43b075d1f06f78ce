-- Rounding keeps the order on fractions of either sign (`rounds_le`).
-- A fraction of either sign is (p - n) / c with natural numbers, so an order of two is one of sums of products; and each operation on finite values is such a fraction, rounded. Assumes nothing.
use mathlib.Core.Path.{◌≡◌, refl, sym, ap, ◌∙◌, subst}
use Prim.Native.Nat.{ℕ, zero, suc, ◌+◌, ◌-◌, ◌*◌, ◌^◌, ◌≤◌, ◌<◌}
use native.Mathlib.Nat.{zero-mul}
use native.Mathlib.Omega.{arith}
use mathlib.Core.Bool.{Bool, true, false, not, cond}
use lib.Dec.{T, ltb, lit<}
use lib.IntN.{pos}
use lib.Ieee.{Float, nan, inf, fin, Format, binary32, prec, emax, low, up, down, odd, units, round, sum, add, mul, div, neg, of_bits, le}
use lib.Ieee.Fits.{round_is}
use lib.Ieee.Order.{drop, kept, round_mono}
use lib.Ieee.Positive.{den}
use lib.Ieee.Scale.{finite}
use borrow.Author.Tests.{ltb-true, ltb-false}
use Rattle.float.specs.F32.{◌⊕◌, ◌⊗◌, ◌⊘◌, f0, f2}
use Rattle.float.proofs.SignedOrder.{LeP, P_from_le, le_from_P, zero_of}
use Rattle.float.proofs.Order.{le_trans}
use Rattle.float.proofs.Finite.{round-zero}

-- ---- the order the other way round
flip : (s : Bool) (a : ℕ) (t : Bool) (b : ℕ) → LeP s a t b → LeP (not t) b (not s) a
flip false a false b h = h
flip false a true b h = (h.1, h.0)
flip true a false b h = tt
flip true a true b h = h

pub neg-le : (x y : Float) → T (le x y) → T (le (neg y) (neg x))
unfolding le neg
neg-le nan y h = absurd h
neg-le (inf s) nan h = absurd h
neg-le (inf true) (inf true) h = tt
neg-le (inf true) (inf false) h = tt
neg-le (inf false) (inf true) h = absurd h
neg-le (inf false) (inf false) h = tt
neg-le (inf true) (fin t n d) h = tt
neg-le (inf false) (fin t n d) h = absurd h
neg-le (fin s m e) nan h = absurd h
neg-le (fin s m e) (inf true) h = absurd h
neg-le (fin s m e) (inf false) h = tt
neg-le (fin s m e) (fin t n d) h =
    le_from_P (not t) (n * up d * down e) (not s) (m * up e * down d) (flip s (m * up e * down d) t (n * up d * down e) (P_from_le s (m * up e * down d) t (n * up d * down e) h))

-- ---- a fraction below zero rounds to the negated value of its opposite
odd-neg : (d q k l : ℕ) → odd d true q k l ≡ neg (odd d false q k l)
unfolding odd neg
odd-neg d zero k l = refl
odd-neg d (suc q) k l = refl

cond_neg : (b : Bool) (x y : Float) → cond b (neg x) (neg y) ≡ neg (cond b x y)
cond_neg true x y = refl
cond_neg false x y = refl

units-neg : (f : Format) (q k : ℕ) → units f true q k ≡ neg (units f false q k)
unfolding units neg
units-neg f q k =
    ap (λ (x : Float). cond (ltb (q * 2 ^ k) (2 ^ (low f + suc (emax f)))) x (inf true)) (odd-neg (suc (prec f)) q k (low f))
    ∙ cond_neg (ltb (q * 2 ^ k) (2 ^ (low f + suc (emax f)))) (odd (suc (prec f)) false q k (low f)) (inf false)

pub round-neg : (f : Format) (a c : ℕ) → round f true a c ≡ neg (round f false a c)
round-neg f a c =
    round_is f true a c
    ∙ units-neg f (kept (prec f) (a * 2 ^ low f) c) (drop (prec f) (a * 2 ^ low f) c)
    ∙ ap neg (sym (round_is f false a c))

-- ---- rounding, of either sign
abbrev o : Float
o = fin false 0 (pos 0)

zero_level : (s : Bool) (a c : ℕ) → a ≡ 0 → 0 < c → T (le o (round binary32 s a c)) × T (le (round binary32 s a c) o)
zero_level s a c z C = subst (λ (x : Float). T (le o x) × T (le x o)) (sym (round-zero s a c z C)) (level s)
  where
    level : (s : Bool) → T (le o (fin s 0 (pos 0))) × T (le (fin s 0 (pos 0)) o)
    level true = unfold le in (tt, tt)
    level false = unfold le in (tt, tt)

above_zero : (a c : ℕ) → 0 < c → T (le o (round binary32 false a c))
above_zero a c C = le_trans o (round binary32 false 0 1) (round binary32 false a c) (zero_level false 0 1 refl (lit< tt)).0 (round_mono binary32 0 1 a c (lit< tt) C (omega arith))

opposite : (a c b d : ℕ) → T (le (round binary32 false b d) (round binary32 false a c)) → T (le (round binary32 true a c) (round binary32 true b d))
opposite a c b d h =
    subst (λ (x : Float). T (le x (round binary32 true b d))) (sym (round-neg binary32 a c))
    (subst (λ (x : Float). T (le (neg (round binary32 false a c)) x)) (sym (round-neg binary32 b d)) (neg-le (round binary32 false b d) (round binary32 false a c) h))

below-zero : (a c : ℕ) → 0 < c → T (le (round binary32 true a c) o)
below-zero a c C = le_trans (round binary32 true a c) (round binary32 true 0 1) o (opposite a c 0 1 (round_mono binary32 0 1 a c (lit< tt) C (omega arith))) (zero_level true 0 1 refl (lit< tt)).1

-- ± a / c ≤ ± b / d
round-le : (s : Bool) (a c : ℕ) (t : Bool) (b d : ℕ) → 0 < c → 0 < d → LeP s (a * d) t (b * c) → T (le (round binary32 s a c) (round binary32 t b d))
round-le false a c false b d C D h = round_mono binary32 a c b d C D h
round-le false a c true b d C D h =
    le_trans (round binary32 false a c) o (round binary32 true b d) (zero_level false a c (zero_of a d D h.0) C).1 (zero_level true b d (zero_of b c C h.1) D).0
round-le true a c false b d C D h = le_trans (round binary32 true a c) o (round binary32 false b d) (below-zero a c C) (above_zero b d D)
round-le true a c true b d C D h = opposite a c b d (round_mono binary32 b d a c D C h)

-- ---- ± a as p - n
abbrev pub plus : Bool → ℕ → ℕ
plus false a = a
plus true a = 0

abbrev pub minus : Bool → ℕ → ℕ
minus false a = 0
minus true a = a

P_from_linear : (s : Bool) (a : ℕ) (t : Bool) (b : ℕ) → plus s a + minus t b ≤ plus t b + minus s a → LeP s a t b
P_from_linear false a false b h = omega arith
P_from_linear false a true b h = (omega arith, omega arith)
P_from_linear true a false b h = tt
P_from_linear true a true b h = omega arith

linear_from_P : (s : Bool) (a : ℕ) (t : Bool) (b : ℕ) → LeP s a t b → plus s a + minus t b ≤ plus t b + minus s a
linear_from_P false a false b h = omega arith
linear_from_P false a true b h = omega (arith, h.0, h.1)
linear_from_P true a false b h = omega arith
linear_from_P true a true b h = omega arith

plus_times : (s : Bool) (a k : ℕ) → plus s (a * k) ≡ plus s a * k
plus_times false a k = refl
plus_times true a k = sym (zero-mul k)

minus_times : (s : Bool) (a k : ℕ) → minus s (a * k) ≡ minus s a * k
minus_times false a k = sym (zero-mul k)
minus_times true a k = refl

-- ---- x is (p - n) / c rounded
pub record Rounds (x : Float) (p n c : ℕ) : Type 0 where
  pub sign : Bool
  pub size : ℕ
  pub is : x ≡ round binary32 sign size c
  pub value : plus sign size + n ≡ p + minus sign size

pub rounds_le : {x y : Float} {p n c q m d : ℕ} → Rounds x p n c → Rounds y q m d → 0 < c → 0 < d → p * d + m * c ≤ q * c + n * d → T (le x y)
rounds_le {x} {y} {p} {n} {c} {q} {m} {d} r s C D h =
    let u = r.sign in
    let w = r.size in
    let v = s.sign in
    let z = s.size in
    let e : (plus u w + n) * d ≡ (p + minus u w) * d = ap (λ (k : ℕ). k * d) r.value in
    let f : (plus v z + m) * c ≡ (q + minus v z) * c = ap (λ (k : ℕ). k * c) s.value in
    subst (λ (k : Float). T (le k y)) (sym r.is)
    (subst (λ (k : Float). T (le (round binary32 u w c) k)) (sym s.is)
    (round-le u w c v z d C D
    (P_from_linear u (w * d) v (z * c) (omega (arith, plus_times u w d, minus_times u w d, plus_times v z c, minus_times v z c)))))

pub round_rounds : (s : Bool) (a c : ℕ) → Rounds (round binary32 s a c) (plus s a) (minus s a) c
round_rounds s a c = record { sign = s; size = a; is = refl; value = refl }

pub zero_rounds : Rounds f0 0 0 1
unfolding of_bits
zero_rounds = record { sign = false; size = 0; is = sym (round-zero false 0 1 refl (lit< tt)); value = refl }

sum_rounds : (s : Bool) (a : ℕ) (t : Bool) (b c : ℕ) → Rounds (sum binary32 s a t b c) (plus s a + plus t b) (minus s a + minus t b) c
unfolding sum
sum_rounds false a false b c = record { sign = false; size = a + b; is = refl; value = omega arith }
sum_rounds true a true b c = record { sign = true; size = a + b; is = refl; value = omega arith }
sum_rounds false a true b c = go (ltb a b) refl
  where
    go : (p : Bool) → ltb a b ≡ p → Rounds (cond p (round binary32 true (b - a) c) (round binary32 false (a - b) c)) (a + 0) (0 + b) c
    go true e = let l : a < b = ltb-true a b e in record { sign = true; size = b - a; is = refl; value = omega arith }
    go false e = let l : b ≤ a = ltb-false a b e in record { sign = false; size = a - b; is = refl; value = omega arith }
sum_rounds true a false b c = go (ltb a b) (ltb b a) refl refl
  where
    go : (p q : Bool) → ltb a b ≡ p → ltb b a ≡ q → Rounds (cond p (round binary32 false (b - a) c) (round binary32 q (a - b) c)) (0 + b) (a + 0) c
    go true q e f = let l : a < b = ltb-true a b e in record { sign = false; size = b - a; is = refl; value = omega arith }
    go false true e f = let l : b < a = ltb-true b a f in record { sign = true; size = a - b; is = refl; value = omega arith }
    go false false e f =
        let l : b ≤ a = ltb-false a b e in
        let k : a ≤ b = ltb-false b a f in
        record { sign = false; size = a - b; is = refl; value = omega arith }

-- ---- a finite value as (pro - con) / den
abbrev pub pro : Float → ℕ
pro nan = 0
pro (inf s) = 0
pro (fin s m e) = plus s (m * up e)

abbrev pub con : Float → ℕ
con nan = 0
con (inf s) = 0
con (fin s m e) = minus s (m * up e)

pub linear_from_le : (x y : Float) → T (finite x) → T (finite y) → T (le x y) → pro x * den y + con y * den x ≤ pro y * den x + con x * den y
unfolding le
linear_from_le nan y p q h = absurd p
linear_from_le (inf s) y p q h = absurd p
linear_from_le (fin s m e) nan p q h = absurd q
linear_from_le (fin s m e) (inf t) p q h = absurd q
linear_from_le (fin s m e) (fin t n d) p q h =
    let k = linear_from_P s (m * up e * down d) t (n * up d * down e) (P_from_le s (m * up e * down d) t (n * up d * down e) h) in
    omega (arith, plus_times s (m * up e) (down d), minus_times s (m * up e) (down d), plus_times t (n * up d) (down e), minus_times t (n * up d) (down e))

pub le_from_linear : (x y : Float) → T (finite x) → T (finite y) → pro x * den y + con y * den x ≤ pro y * den x + con x * den y → T (le x y)
unfolding le
le_from_linear nan y p q h = absurd p
le_from_linear (inf s) y p q h = absurd p
le_from_linear (fin s m e) nan p q h = absurd q
le_from_linear (fin s m e) (inf t) p q h = absurd q
le_from_linear (fin s m e) (fin t n d) p q h =
    le_from_P s (m * up e * down d) t (n * up d * down e)
    (P_from_linear s (m * up e * down d) t (n * up d * down e)
    (omega (arith, plus_times s (m * up e) (down d), minus_times s (m * up e) (down d), plus_times t (n * up d) (down e), minus_times t (n * up d) (down e))))

pub add_rounds : (x y : Float) → T (finite x) → T (finite y) → Rounds (x ⊕ y) (pro x * den y + pro y * den x) (con x * den y + con y * den x) (den x * den y)
unfolding add
add_rounds nan y p q = absurd p
add_rounds (inf s) y p q = absurd p
add_rounds (fin s m e) nan p q = absurd q
add_rounds (fin s m e) (inf t) p q = absurd q
add_rounds (fin s m e) (fin t n d) p q =
    rw (← plus_times s (m * up e) (down d), ← minus_times s (m * up e) (down d), ← plus_times t (n * up d) (down e), ← minus_times t (n * up d) (down e))
    (sum_rounds s (m * up e * down d) t (n * up d * down e) (down e * down d))

pub half_rounds : (x : Float) → T (finite x) → Rounds (x ⊘ f2) (pro x) (con x) (2 * den x)
unfolding div of_bits
half_rounds nan p = absurd p
half_rounds (inf s) p = absurd p
half_rounds (fin true m e) p = record { sign = true; size = m * up e * 1; is = refl; value = omega arith }
half_rounds (fin false m e) p = record { sign = false; size = m * up e * 1; is = refl; value = omega arith }

pub mul_rounds : (x y : Float) → T (finite x) → T (finite y) → Rounds (x ⊗ y) (pro x * pro y + con x * con y) (pro x * con y + con x * pro y) (den x * den y)
unfolding mul
mul_rounds nan y p q = absurd p
mul_rounds (inf s) y p q = absurd p
mul_rounds (fin s m e) nan p q = absurd q
mul_rounds (fin s m e) (inf t) p q = absurd q
mul_rounds (fin true m e) (fin true n d) p q = record { sign = false; size = m * up e * (n * up d); is = refl; value = omega arith }
mul_rounds (fin true m e) (fin false n d) p q = record { sign = true; size = m * up e * (n * up d); is = refl; value = omega arith }
mul_rounds (fin false m e) (fin true n d) p q = record { sign = true; size = m * up e * (n * up d); is = refl; value = omega arith }
mul_rounds (fin false m e) (fin false n d) p q = record { sign = false; size = m * up e * (n * up d); is = refl; value = omega arith }
