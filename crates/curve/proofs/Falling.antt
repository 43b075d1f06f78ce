-- One half to the power r, in f32, lies from 0 to 1 and never grows as r does: within a whole step by the sum, and from one to the next since the sum lies from 1 to 2. Assumes nothing.
use mathlib.Core.Path.{◌≡◌, refl, sym, ap, ◌∙◌, subst}
use mathlib.Core.Bool.{Bool, true, false, ◌&&◌, true≢false}
use mathlib.Core.Logic.{inl, inr}
use Prim.Native.Nat.{ℕ, zero, suc, ◌-◌, ◌*◌, ◌^◌, ◌≤◌, ◌<◌}
use native.Mathlib.Nat.{eq-or-lt_of_le, not-suc-le-zero}
use native.Mathlib.Omega.{arith}
use lib.Dec.{T}
use lib.IntN.{pos, nat_abs}
use lib.Ieee.{Float, is_nan, of_bits, of_int, to_signed, le, add, sub, mul}
use lib.Ieee.Bits.{is_true}
use lib.Ieee.Fits.{and_l, and_r}
use lib.Ieee.Scale.{finite}
use Rattle.float.specs.F32.{◌⊖◌, ◌⊗◌, f0, f1, f2, half}
use Rattle.float.specs.Number.{count_of, whole_of}
use Rattle.float.proofs.Order.{le_trans, le_total, no_nan_r, finite_between}
use Rattle.float.proofs.PatternOrder.{at, pattern_le}
use Rattle.float.proofs.Rounding.{sub_mono, sub_rising}
use Rattle.float.proofs.Wholes.{count_held, count_mono, whole_is, whole_mono, at_least, left_least, left_most}
use Rattle.float.proofs.Chains.{Chain, chain_product}
use Rattle.curve.specs.Factor.{power_of, lowered_of, bottom, fall_of}
use Rattle.curve.proofs.Closed.{zero-finite, one_finite, zero-zero, zero_one, one_one, one_count}
use Rattle.curve.proofs.Sums.{power_chain, power_whole, power_none}

-- ---- r below 32 and its whole part
pub record Stepped (r : Float) (j : ℕ) : Type 0 where
  pub bounded : T (finite r)
  pub low : T (le f0 r)
  pub is : whole_of r ≡ pos j
  pub few : j < 32

bottom_count : count_of 32 ≡ bottom
unfolding of_int of_bits
bottom_count = refl

bottom_whole : whole_of bottom ≡ pos 32
unfolding of_bits to_signed
bottom_whole = refl

pub stepped : (r : Float) → T (le f0 r) → le bottom r ≡ false → (j : ℕ) × Stepped r j
stepped r h n =
    let up : T (le r bottom) = elim (le_total r bottom (no_nan_r f0 r h) (unfold of_bits is_nan in refl)) [ inl k ↦ k | inr k ↦ absurd (true≢false (sym (is_true (le bottom r) k) ∙ n)) ] in
    let f = finite_between f0 r bottom zero-finite (unfold of_bits in tt) h up in
    let w = whole_is r f h in
    let l = whole_mono r bottom w.0 32 f (unfold of_bits in tt) h up w.1 bottom_whole (omega arith) in
    (w.0, record { bounded = f; low = h; is = w.1; few = below w.0 l (λ e. at_least r w.0 f h w.1 (omega arith)) })
  where
    below : (j : ℕ) → j ≤ 32 → (j ≡ 32 → T (le (count_of j) r)) → j < 32
    below j l k = elim (eq-or-lt_of_le l) [
      | inl e ↦ absurd (true≢false (sym (is_true (le bottom r) (subst (λ (x : Float). T (le x r)) (ap count_of e ∙ bottom_count) (k e))) ∙ n))
      | inr m ↦ m
    ]

-- ---- 2^-(1+j), once and twice, for each j below 32: computed
abbrev scale : ℕ → Float
scale j = at ((126 - j) * 2 ^ 23)

unfoldable tested : ℕ → Bool
tested j = le (scale j) (scale j ⊗ f1) && le (scale j ⊗ f2) (at ((127 - j) * 2 ^ 23))

unfoldable all : (ℕ → Bool) → ℕ → Bool
all f zero = true
all f (suc n) = f n && all f n

all-at : (f : ℕ → Bool) (n : ℕ) → T (all f n) → (j : ℕ) → j < n → T (f j)
unfolding all
all-at f zero t j h = absurd (not-suc-le-zero h)
all-at f (suc n) t j h =
    let l : j ≤ n = omega arith in
    elim (eq-or-lt_of_le l) [ inl e ↦ subst (λ (k : ℕ). T (f k)) (sym e) (and_l (f n) (all f n) t) | inr m ↦ all-at f n (and_r (f n) (all f n) t) j m ]

all_tested : T (all tested 32)
unfolding all tested of_bits mul le
all_tested = tt

module _ (j : ℕ) (few : j < 32) where
  scale_once : T (le (scale j) (scale j ⊗ f1))
  unfolding tested
  scale_once = and_l (le (scale j) (scale j ⊗ f1)) (le (scale j ⊗ f2) (at ((127 - j) * 2 ^ 23))) (all-at tested 32 all_tested j few)

  scale_twice : T (le (scale j ⊗ f2) (at ((127 - j) * 2 ^ 23)))
  unfolding tested
  scale_twice = and_r (le (scale j) (scale j ⊗ f1)) (le (scale j ⊗ f2) (at ((127 - j) * 2 ^ 23))) (all-at tested 32 all_tested j few)

  scale_most : T (le (scale j) f1)
  scale_most = pattern_le ((126 - j) * 2 ^ 23) 0x3f80_0000 (omega arith) (omega arith)

  scale_row : Chain (scale j) (scale j) f1
  scale_row = record {
    low = pattern_le 0 ((126 - j) * 2 ^ 23) (omega arith) (omega arith);
    mid = pattern_le ((126 - j) * 2 ^ 23) ((126 - j) * 2 ^ 23) (omega arith) (omega arith);
    high = scale_most;
    bounded = one_finite;
  }

-- ---- what is left of the last step
one_left : f1 ⊖ f0 ≡ f1
unfolding of_bits sub
one_left = refl

abbrev rest : Float → ℕ → Float
rest r j = f1 ⊖ (r ⊖ count_of j)

module _ (r : Float) (j : ℕ) (s : Stepped r j) where
  taken_low : T (le f0 (r ⊖ count_of j))
  taken_low = let l = s.few in left_least r j s.bounded s.low s.is (omega arith)

  taken_high : T (le (r ⊖ count_of j) f1)
  taken_high = let l = s.few in subst (λ (x : Float). T (le (r ⊖ count_of j) x)) one_count (left_most r j s.bounded s.low s.is (omega arith))

  taken_finite : T (finite (r ⊖ count_of j))
  taken_finite = finite_between f0 (r ⊖ count_of j) f1 zero-finite one_finite taken_low taken_high

  rest_low : T (le f0 (rest r j))
  rest_low = sub_rising (r ⊖ count_of j) f1 taken_finite one_finite taken_high

  rest_high : T (le (rest r j) f1)
  rest_high = subst (λ (x : Float). T (le (rest r j) x)) one_left (sub_mono f1 (r ⊖ count_of j) f1 f0 one_finite taken_finite one_finite zero-finite one_one taken_low)

-- 2^-(1+j)·2^u, for u from 0 to 1
scaled : {u v : Float} (j : ℕ) → j < 32 → Chain u v f1 → Chain (scale j ⊗ power_of u) (scale j ⊗ power_of v) (f1 ⊗ power_of f1)
scaled j few c = chain_product (scale_row j few) (power_chain c) (unfold power_of of_bits mul add in tt)

module _ (r : Float) (j : ℕ) (s : Stepped r j) where
  from_none : Chain f0 (rest r j) f1
  from_none = record { low = zero-zero; mid = rest_low r j s; high = rest_high r j s; bounded = one_finite }

  to_one : Chain (rest r j) f1 f1
  to_one = record { low = rest_low r j s; mid = rest_high r j s; high = one_one; bounded = one_finite }

  lowered_low : T (le (scale j) (lowered_of r j))
  unfolding lowered_of
  lowered_low =
      le_trans (scale j) (scale j ⊗ f1) (lowered_of r j) (scale_once j s.few)
      (subst (λ (x : Float). T (le (scale j ⊗ x) (lowered_of r j))) power_none (scaled j s.few from_none).mid)

  lowered_high : T (le (lowered_of r j) (at ((127 - j) * 2 ^ 23)))
  unfolding lowered_of
  lowered_high =
      le_trans (lowered_of r j) (scale j ⊗ f2) (at ((127 - j) * 2 ^ 23))
      (subst (λ (x : Float). T (le (lowered_of r j) (scale j ⊗ x))) power_whole (scaled j s.few to_one).mid) (scale_twice j s.few)

-- ---- in order
lowered_same : (q r : Float) (j : ℕ) → Stepped q j → Stepped r j → T (le q r) → T (le (lowered_of r j) (lowered_of q j))
unfolding lowered_of
lowered_same q r j s t h =
    let l = s.few in
    let f = (count_held j (omega arith)).bounded in
    let k = sub_mono q (count_of j) r (count_of j) s.bounded f t.bounded f h (count_mono j j (omega arith)) in
    let c : Chain (rest r j) (rest q j) f1 = record {
      low = rest_low r j t;
      mid = sub_mono f1 (r ⊖ count_of j) f1 (q ⊖ count_of j) one_finite (taken_finite r j t) one_finite (taken_finite q j s) one_one k;
      high = rest_high q j s;
      bounded = one_finite;
    } in
    (scaled j s.few c).mid

lowered_falls : (q r : Float) (i j : ℕ) → Stepped q i → Stepped r j → T (le q r) → T (le (lowered_of r j) (lowered_of q i))
lowered_falls q r i j s t h =
    let few = t.few in
    let l = whole_mono q r i j s.bounded t.bounded s.low h s.is t.is (omega arith) in
    elim (eq-or-lt_of_le l) [
      | inl e ↦ subst (λ (n : ℕ). T (le (lowered_of r j) (lowered_of q n))) (sym e) (lowered_same q r j (subst (λ (n : ℕ). Stepped q n) e s) t h)
      | inr m ↦
          le_trans (lowered_of r j) (at ((127 - j) * 2 ^ 23)) (lowered_of q i) (lowered_high r j t)
          (le_trans (at ((127 - j) * 2 ^ 23)) (scale i) (lowered_of q i) (pattern_le ((127 - j) * 2 ^ 23) ((126 - i) * 2 ^ 23) (omega arith) (omega arith)) (lowered_low q i s))
    ]

lowered_within : (r : Float) (j : ℕ) → Stepped r j → T (le f0 (lowered_of r j)) × T (le (lowered_of r j) f1)
lowered_within r j s = (
  le_trans f0 (scale j) (lowered_of r j) (scale_row j s.few).low (lowered_low r j s),
  le_trans (lowered_of r j) (at ((127 - j) * 2 ^ 23)) f1 (lowered_high r j s) (pattern_le ((127 - j) * 2 ^ 23) 0x3f80_0000 (omega arith) (omega arith)),
)

-- ---- by the test of the bottom
module _ (r : Float) where
  pub fall_none : le bottom r ≡ true → f0 ≡ fall_of r
  unfolding fall_of
  fall_none e = rw e

  pub fall_some : le bottom r ≡ false → lowered_of r (nat_abs (whole_of r)) ≡ fall_of r
  unfolding fall_of
  fall_some e = rw e

  fall_stepped : (j : ℕ) → Stepped r j → le bottom r ≡ false → lowered_of r j ≡ fall_of r
  fall_stepped j s e = ap (λ z. lowered_of r (nat_abs z)) (sym s.is) ∙ fall_some e

pub fall_within : (r : Float) → T (le f0 r) → T (le f0 (fall_of r)) × T (le (fall_of r) f1)
fall_within r h = go (le bottom r) refl
  where
    go : (b : Bool) → le bottom r ≡ b → T (le f0 (fall_of r)) × T (le (fall_of r) f1)
    go true e = subst (λ (x : Float). T (le f0 x) × T (le x f1)) (fall_none r e) (zero-zero, zero_one)
    go false e = let w = stepped r h e in subst (λ (x : Float). T (le f0 x) × T (le x f1)) (fall_stepped r w.0 w.1 e) (lowered_within r w.0 w.1)

pub fall_falls : (q r : Float) → T (le f0 q) → T (le q r) → T (le (fall_of r) (fall_of q))
fall_falls q r h k = go (le bottom q) (le bottom r) refl refl
  where
    go : (a b : Bool) → le bottom q ≡ a → le bottom r ≡ b → T (le (fall_of r) (fall_of q))
    go a true d e = subst (λ (x : Float). T (le x (fall_of q))) (fall_none r e) (fall_within q h).0
    go true false d e = absurd (true≢false (sym (is_true (le bottom r) (le_trans bottom q r (subst T (sym d) tt) k)) ∙ e))
    go false false d e =
        let s = stepped q h d in
        let t = stepped r (le_trans f0 q r h k) e in
        subst (λ (x : Float). T (le x (fall_of q))) (fall_stepped r t.0 t.1 e)
        (subst (λ (x : Float). T (le (lowered_of r t.0) x)) (fall_stepped q s.0 s.1 d) (lowered_falls q r s.0 t.0 s.1 t.1 k))

-- at 1, where the place is the middle
pub fall_one : fall_of f1 ≡ half
unfolding fall_of lowered_of power_of of_bits of_int to_signed le add sub mul
fall_one = refl
