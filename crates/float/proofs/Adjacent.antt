-- The f32 just above, and just below, rise with the number. Assumes nothing.
use mathlib.Core.Path.{◌≡◌, refl, sym, ◌∙◌}
use mathlib.Core.Bool.{Bool, true, false, cond, ◌&&◌, true≢false}
use Prim.Native.Nat.{ℕ, ◌+◌, ◌-◌, ◌*◌, ◌≤◌, ◌<◌}
use native.Mathlib.Omega.{arith}
use borrow.Author.Tests.{ltb-true, ltb-false, eq-eqb}
use lib.Dec.{T, ltb, eqb}
use lib.Ieee.{Float, nan, inf, fin, binary32, up, down, fits, to_bits, of_bits, neg, lt, le, eq}
use lib.Ieee.Scale.{finite}
use Rattle.float.specs.F32.{f0}
use Rattle.float.specs.Number.{magnitude_of, above_of, below_of}
use Rattle.float.specs.Units.{plain}
use Rattle.float.proofs.Order.{as_T, le_trans, lt→le, not_lt_from_le, le_from_eq, ge_from_eq}
use Rattle.float.proofs.PatternOrder.{at, pattern_le, pattern_back, pattern_under, pattern_mono}
use Rattle.float.proofs.SignedRound.{neg-le}
use Rattle.float.proofs.Signs.{fits_signed}

-- ---- by the sign
not_under : (a b : ℕ) → ltb (a * 1) (0 * 1 * b) ≡ true → ⊥
not_under a b h = let k = ltb-true (a * 1) (0 * 1 * b) h in omega arith

not-zero : (a b : ℕ) → ltb 0 (a * 1 + 0 * 1 * b) ≡ false → (eqb (a * 1) (0 * 1 * b) && eqb (a * 1) 0) ≡ false → ⊥
not-zero a b h d =
    let k = ltb-false 0 (a * 1 + 0 * 1 * b) h in
    let x : eqb (a * 1) (0 * 1 * b) ≡ true = eq-eqb (a * 1) (0 * 1 * b) (omega arith) in
    let y : eqb (a * 1) 0 ≡ true = eq-eqb (a * 1) 0 (omega arith) in
    true≢false (rw (x, y) at d)

pub neg_side : (x : Float) → finite x ≡ true → lt x f0 ≡ true → magnitude_of x ≡ neg x
unfolding magnitude_of neg lt of_bits
neg_side nan f h = absurd (true≢false (sym f))
neg_side (inf s) f h = absurd (true≢false (sym f))
neg_side (fin true m e) f h = refl
neg_side (fin false m e) f h = absurd (not_under (m * up e) (down e) h)

pub pos_side : (x : Float) → finite x ≡ true → lt x f0 ≡ false → eq x f0 ≡ false → magnitude_of x ≡ x
unfolding magnitude_of lt eq of_bits
pos_side nan f h d = absurd (true≢false (sym f))
pos_side (inf s) f h d = absurd (true≢false (sym f))
pos_side (fin false m e) f h d = refl
pos_side (fin true m e) f h d = absurd (not-zero (m * up e) (down e) h d)

-- ---- the pattern of the magnitude
abbrev pub M : Float → ℕ
M x = to_bits binary32 (magnitude_of x)

-- a finite f32
abbrev pub One : Float → Type 0
One x = T (fits binary32 x) × (finite x ≡ true)

fits_magnitude : (x : Float) → One x → T (fits binary32 (magnitude_of x))
unfolding magnitude_of
fits_magnitude nan w = absurd (true≢false (sym w.1))
fits_magnitude (inf s) w = absurd (true≢false (sym w.1))
fits_magnitude (fin s m e) w = fits_signed s false m e w.0

plain_magnitude : (x : Float) → One x → T (plain (magnitude_of x))
unfolding magnitude_of
plain_magnitude nan w = absurd (true≢false (sym w.1))
plain_magnitude (inf s) w = absurd (true≢false (sym w.1))
plain_magnitude (fin s m e) w = tt

pub back : (x : Float) → One x → at (M x) ≡ magnitude_of x
back x w = pattern_back (magnitude_of x) (fits_magnitude x w) (plain_magnitude x w)

pub under : (x : Float) → One x → M x < 2139095040
under x w = pattern_under (magnitude_of x) (fits_magnitude x w) (plain_magnitude x w)

in_order : (x y : Float) → One x → One y → T (le (magnitude_of x) (magnitude_of y)) → M x ≤ M y
in_order x y v w h = pattern_mono (magnitude_of x) (magnitude_of y) (fits_magnitude x v) (plain_magnitude x v) (fits_magnitude y w) (plain_magnitude y w) h

-- ---- what lies below zero, and above
zero_one : T (le (neg f0) (at 1))
unfolding le neg of_bits
zero_one = tt

pub zero-zero : T (le (neg f0) f0)
unfolding le neg of_bits
zero-zero = tt

pub under_zero : (k : ℕ) → k ≤ 2139095040 → T (le (neg (at k)) (neg f0))
under_zero k l = neg-le f0 (at k) (pattern_le 0 k (omega arith) l)

above_under : (k j : ℕ) → k ≤ 2139095040 → j ≤ 2139095040 → T (le (neg (at k)) (at j))
above_under k j a b = le_trans (neg (at k)) (neg f0) (at j) (under_zero k a) (le_trans (neg f0) f0 (at j) zero-zero (pattern_le 0 j (omega arith) b))

pub no_more : (x : Float) → lt x f0 ≡ false → eq x f0 ≡ false → T (le x f0) → ⊥
unfolding le
no_more x a b h = rw (a, b) at h

abbrev pub stepped : Bool → Bool → Float → Float
stepped none minus x = cond none (at 1) (cond minus (neg (at (M x - 1))) (at (M x + 1)))

pub above_rises : (p q : Float) → One p → One q → T (le p q) → T (le (above_of p) (above_of q))
unfolding above_of
above_rises p q v w h = go (eq p f0) (lt p f0) (eq q f0) (lt q f0) refl refl refl refl
  where
    up : M p < 2139095040
    up = under p v

    uq : M q < 2139095040
    uq = under q w

    go : (a b c d : Bool) → eq p f0 ≡ a → lt p f0 ≡ b → eq q f0 ≡ c → lt q f0 ≡ d → T (le (stepped a b p) (stepped c d q))
    go true b true d ea eb ec ed = pattern_le 1 1 (omega (arith, up, uq)) (omega (arith, up, uq))
    go true b false true ea eb ec ed =
        let k = le_trans f0 p q (ge_from_eq p f0 (as_T _ ea)) h in
        absurd (true≢false (sym ed ∙ not_lt_from_le q f0 k))
    go true b false false ea eb ec ed = pattern_le 1 (M q + 1) (omega (arith, up, uq)) (omega (arith, up, uq))
    go false true true d ea eb ec ed = above_under (M p - 1) 1 (omega (arith, up, uq)) (omega (arith, up, uq))
    go false true false true ea eb ec ed =
        let k : T (le (magnitude_of q) (magnitude_of p)) = rw (neg_side q w.1 ed, neg_side p v.1 eb) (neg-le p q h) in
        let l = in_order q p w v k in
        neg-le (at (M q - 1)) (at (M p - 1)) (pattern_le (M q - 1) (M p - 1) (omega (arith, up, uq)) (omega (arith, up, uq)))
    go false true false false ea eb ec ed = above_under (M p - 1) (M q + 1) (omega (arith, up, uq)) (omega (arith, up, uq))
    go false false true d ea eb ec ed = absurd (no_more p eb ea (le_trans p q f0 h (le_from_eq q f0 (as_T _ ec))))
    go false false false true ea eb ec ed = absurd (no_more p eb ea (le_trans p q f0 h (lt→le q f0 (as_T _ ed))))
    go false false false false ea eb ec ed =
        let k : T (le (magnitude_of p) (magnitude_of q)) = rw (pos_side p v.1 eb ea, pos_side q w.1 ed ec) h in
        let l = in_order p q v w k in
        pattern_le (M p + 1) (M q + 1) (omega (arith, up, uq)) (omega (arith, up, uq))

pub one_neg : (x : Float) → One x → One (neg x)
unfolding neg
one_neg nan w = absurd (true≢false (sym w.1))
one_neg (inf s) w = absurd (true≢false (sym w.1))
one_neg (fin true m e) w = (fits_signed true false m e w.0, refl)
one_neg (fin false m e) w = (fits_signed false true m e w.0, refl)

pub below_rises : (p q : Float) → One p → One q → T (le p q) → T (le (below_of p) (below_of q))
unfolding below_of
below_rises p q v w h = neg-le (above_of (neg q)) (above_of (neg p)) (above_rises (neg q) (neg p) (one_neg q w) (one_neg p v) (neg-le p q h))
