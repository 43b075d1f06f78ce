-- Whole numbers as f32: up to 2 ^ 24 each is held as it is, so that sums and products of them are the f32's own; and a number lies from its whole part to one more. Assumes nothing.
use mathlib.Core.Path.{◌≡◌, refl, sym, ap, ◌∙◌, subst}
use Prim.Native.Nat.{ℕ, suc, ◌+◌, ◌-◌, ◌*◌, ◌/◌, ◌^◌, ◌≤◌, ◌<◌, min}
use native.Mathlib.Nat.{mul-pos, mul-one, le_of_lt, lt_of_not-le, mul-le-mul_right, mul-lt-mul_of_pos_right, le-div_iff_mul-le, div-lt_iff_lt-mul}
use native.Mathlib.Decide.{dec_le}
use native.Mathlib.Omega.{arith}
use mathlib.Core.Bool.{true, false}
use lib.Dec.{T, lit<}
use lib.IntN.{pos, neg_ℤ}
use lib.Ieee.{Float, nan, inf, fin, binary32, up, down, of_int, le, to_signed}
use lib.Ieee.Back.{round_whole}
use lib.Ieee.Exact.{HasValue}
use lib.Ieee.Fits.{down_pos}
use lib.Ieee.Positive.{den, den_pos}
use lib.Ieee.Scale.{finite}
use Rattle.float.specs.F32.{◌⊕◌, ◌⊖◌, ◌⊗◌, f0}
use Rattle.float.specs.Number.{count_of, whole_of}
use Rattle.float.proofs.Order.{le_trans}
use Rattle.float.proofs.Counted.{count_less}
use Rattle.float.proofs.Rounding.{no_con, sub_mono, sub_rising}
use Rattle.float.proofs.SignedRound.{Rounds, rounds_le, round_rounds, pro, con, linear_from_le, le_from_linear, add_rounds, mul_rounds}

-- ---- n itself
pub record Held (x : Float) (n : ℕ) : Type 0 where
  pub bounded : T (finite x)
  pub up_is : pro x ≡ n * den x
  pub down_is : con x ≡ 0

held : (x : Float) (n : ℕ) → HasValue x false n 1 → Held x n
held nan n v = absurd v
held (inf s) n v = absurd v
held (fin true m e) n v = absurd (let z : ◌≡◌ {A = ℕ} 0 1 = cc in omega arith)
held (fin false m e) n v = record { bounded = tt; up_is = sym (mul-one (m * up e)) ∙ v.1; down_is = refl }

pub count_held : (n : ℕ) → n ≤ 2 ^ 24 → Held (count_of n) n
unfolding of_int
count_held n h = held (count_of n) n (round_whole binary32 false n h)

-- ---- in order
count_rounds : (n : ℕ) → Rounds (count_of n) n 0 1
unfolding of_int
count_rounds n = round_rounds false n 1

pub count_mono : (a b : ℕ) → a ≤ b → T (le (count_of a) (count_of b))
count_mono a b h = rounds_le (count_rounds a) (count_rounds b) (lit< tt) (lit< tt) (omega arith)

-- ---- sums and products
module _ (a b : ℕ) (x y : Float) (u : Held x a) (v : Held y b) where
  both_pos : 0 < den x * den y
  both_pos = mul-pos (den_pos x) (den_pos y)

  added : (c : ℕ) → c ≡ a + b → T (le (x ⊕ y) (count_of c)) × T (le (count_of c) (x ⊕ y))
  added c e =
      let r = add_rounds x y u.bounded v.bounded in
      let p : pro x * den y + pro y * den x ≡ c * (den x * den y) = rw (u.up_is, v.up_is, e) (omega arith) in
      let n : con x * den y + con y * den x ≡ 0 = rw (u.down_is, v.down_is) (omega arith) in
      (rounds_le r (count_rounds c) both_pos (lit< tt) (omega arith), rounds_le (count_rounds c) r (lit< tt) both_pos (omega arith))

  timed : (c : ℕ) → c ≡ a * b → T (le (x ⊗ y) (count_of c)) × T (le (count_of c) (x ⊗ y))
  timed c e =
      let r = mul_rounds x y u.bounded v.bounded in
      let p : pro x * pro y + con x * con y ≡ c * (den x * den y) = rw (u.up_is, v.up_is, u.down_is, v.down_is, e) (omega arith) in
      let n : pro x * con y + con x * pro y ≡ 0 = rw (u.down_is, v.down_is) (omega arith) in
      (rounds_le r (count_rounds c) both_pos (lit< tt) (omega arith), rounds_le (count_rounds c) r (lit< tt) both_pos (omega arith))

module _ (a b : ℕ) (h : a ≤ 2 ^ 24) (k : b ≤ 2 ^ 24) where
  pub count_sum : T (le (count_of a ⊕ count_of b) (count_of (a + b))) × T (le (count_of (a + b)) (count_of a ⊕ count_of b))
  count_sum = added a b (count_of a) (count_of b) (count_held a h) (count_held b k) (a + b) refl

  pub count_product : T (le (count_of a ⊗ count_of b) (count_of (a * b))) × T (le (count_of (a * b)) (count_of a ⊗ count_of b))
  count_product = timed a b (count_of a) (count_of b) (count_held a h) (count_held b k) (a * b) refl

-- ---- the whole part n of x, which is not negative
pub whole_is : (x : Float) → T (finite x) → T (le f0 x) → (n : ℕ) × (whole_of x ≡ pos n) × (n * den x ≤ pro x) × (n < 2 ^ 63 - 1 → pro x < suc n * den x)
unfolding to_signed
whole_is nan f h = absurd f
whole_is (inf s) f h = absurd f
whole_is (fin false m e) f h =
    let q = m * up e / down e in
    let d = down_pos e in
    (min q (2 ^ 63 - 1), refl, (le-div_iff_mul-le d).0 (few q), λ l. (div-lt_iff_lt-mul {k = down e} d).0 (past q l))
  where
    few : (q : ℕ) → min q (2 ^ 63 - 1) ≤ q
    few q = omega arith

    past : (q : ℕ) → min q (2 ^ 63 - 1) < 2 ^ 63 - 1 → q < suc (min q (2 ^ 63 - 1))
    past q l = omega arith
whole_is (fin true m e) f h = let d = down_pos e in (0, none (m * up e) (down e) d (no_con (fin true m e) f h), omega arith, λ l. omega arith)
  where
    low : (k : ℕ) → k < 1 → min k (2 ^ 63) ≡ 0
    low k l = omega arith

    none : (a d : ℕ) → 0 < d → a ≡ 0 → neg_ℤ (pos (min (a / d) (2 ^ 63))) ≡ pos 0
    none a d p z = ap (λ (k : ℕ). neg_ℤ (pos k)) (low (a / d) ((div-lt_iff_lt-mul {k = d} p).1 (omega arith)))

module _ (x : Float) (n : ℕ) (f : T (finite x)) (nx : T (le f0 x)) (e : whole_of x ≡ pos n) where
  reached : n * den x ≤ pro x
  reached = let w = whole_is x f nx in let v = w.1 in let q : w.0 ≡ n = cc in subst (λ (k : ℕ). k * den x ≤ pro x) q w.2

  within : n < 2 ^ 63 - 1 → pro x < suc n * den x
  within = let w = whole_is x f nx in let v = w.1 in let q : w.0 ≡ n = cc in subst (λ (k : ℕ). k < 2 ^ 63 - 1 → pro x < suc k * den x) q w.3

-- it never falls
pub whole_mono : (x y : Float) (a b : ℕ) → T (finite x) → T (finite y) → T (le f0 x) → T (le x y) → whole_of x ≡ pos a → whole_of y ≡ pos b → b < 2 ^ 63 - 1 → a ≤ b
whole_mono x y a b fx fy nx h ex ey l =
    let ny = le_trans f0 x y nx h in
    go (pro x) (den x) (pro y) (den y) (den_pos x) (den_pos y) (reached x a fx nx ex) (within y b fy ny ey l)
    (let i = linear_from_le x y fx fy h in
    omega (arith, i, ap (λ (k : ℕ). k * den y) (no_con x fx nx), ap (λ (k : ℕ). k * den x) (no_con y fy ny)))
    (dec_le a b)
  where
    go : (p d q e : ℕ) → 0 < d → 0 < e → a * d ≤ p → q < suc b * e → p * e ≤ q * d → Dec (a ≤ b) → a ≤ b
    go p d q e D E l m n (yes k) = k
    go p d q e D E l m n (no f) =
        let k : suc b ≤ a = lt_of_not-le f in
        let u : suc b * (d * e) ≤ a * (d * e) = mul-le-mul_right (d * e) k in
        let v : a * d * e ≤ p * e = mul-le-mul_right e l in
        let w : q * d < suc b * e * d = mul-lt-mul_of_pos_right m D in
        absurd (omega arith)

module _ (x : Float) (n : ℕ) (f : T (finite x)) (nx : T (le f0 x)) (e : whole_of x ≡ pos n) (l : n < 2 ^ 24) where
  pub at_least : T (le (count_of n) x)
  at_least =
      let h = count_held n (omega arith) in
      le_from_linear (count_of n) x h.bounded f
      (rw (h.up_is, h.down_is, no_con x f nx) (let k = mul-le-mul_right (den (count_of n)) (reached x n f nx e) in omega arith))

  at_most : T (le x (count_of (suc n)))
  at_most =
      let h = count_held (suc n) l in
      le_from_linear x (count_of (suc n)) f h.bounded
      (rw (h.up_is, h.down_is, no_con x f nx) (let k = mul-le-mul_right (den (count_of (suc n))) (le_of_lt (within x n f nx e (omega arith))) in omega arith))

  -- what is left of x beside its whole part lies from 0 to 1
  pub left_least : T (le f0 (x ⊖ count_of n))
  left_least = sub_rising (count_of n) x (count_held n (omega arith)).bounded f at_least

  pub left_most : T (le (x ⊖ count_of n) (count_of 1))
  left_most =
      let h = count_held n (omega arith) in
      let k = count_held (suc n) l in
      let one : suc n - n ≡ 1 = omega arith in
      subst (λ (y : Float). T (le (x ⊖ count_of n) y)) (count_less (suc n) n (omega arith) l ∙ ap count_of one)
      (sub_mono x (count_of n) (count_of (suc n)) (count_of n) f h.bounded k.bounded h.bounded at_most (count_mono n n (omega arith)))
