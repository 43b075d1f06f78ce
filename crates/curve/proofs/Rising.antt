-- The factor of a curved segment lies from 0 to 1 and never falls as the place grows; it is 0 at 0, exactly 1/2 at the middle and 1 at 1. Assumes nothing.
use mathlib.Core.Path.{◌≡◌, refl, sym, ap, ◌∙◌, subst}
use mathlib.Core.Bool.{Bool, true, false, true≢false}
use lib.Dec.{T}
use lib.Ieee.{Float, binary32, fits, of_bits, to_bits, of_int, is_nan, le, lt, add, sub, mul, div}
use lib.Ieee.Bits.{is_true}
use borrow.Author.Tests.{not-true}
use Rattle.float.specs.F32.{◌⊘◌, f0, f1, half}
use Rattle.float.proofs.Order.{as_T, le_trans, le_refl, lt_is, lt→le, no_nan_l, no_nan_r}
use Rattle.float.proofs.Quotients.{div_mono, self_quotient}
use Rattle.curve.specs.Depth.{series_of, part_of, level_of, depth_of}
use Rattle.curve.specs.Factor.{fall_of, factor_of, FactorLaws}
use Rattle.curve.proofs.Closed.{zero-zero, zero_one, one_one, one_over, zero_number, one_number}
use Rattle.curve.proofs.Inside.{Inside, inside}
use Rattle.curve.proofs.Deeper.{depth_falls}
use Rattle.curve.proofs.Halved.{split}
use Rattle.curve.proofs.Falling.{fall_within, fall_falls, fall_one}
use Rattle.curve.proofs.Tested.{depth_finite, depth_low, depth_some, ratio_low, between, place_low, place_high, middle_low, middle_high, middle_inside}

-- ---- closed facts
pub half_deep : depth_of half ≡ f1
unfolding depth_of level_of part_of series_of of_bits to_bits of_int add sub mul div
half_deep = refl

abbrev Within : Float → Type 0
Within x = T (le f0 x) × T (le x f1)

-- ---- where a number lies, with what the tests told
record Open (x : Float) : Type 0 where
  number : is_nan x ≡ false
  over : le x f0 ≡ false
  under : le f1 x ≡ false
  is : Inside x

data Lies (x : Float) : Type 0 where
  before : T (le x f0) → Lies x
  inner : Open x → Lies x
  after : le x f0 ≡ false → T (le f1 x) → Lies x

lies : (x : Float) → T (fits binary32 x) → is_nan x ≡ false → Lies x
lies x f n = go (le x f0) (le f1 x) refl refl
  where
    go : (a b : Bool) → le x f0 ≡ a → le f1 x ≡ b → Lies x
    go true b d e = before (as_T (le x f0) d)
    go false true d e = after d (as_T (le f1 x) e)
    go false false d e = inner (record { number = n; over = d; under = e; is = between x n d e f })

-- ---- the factor at a place, and between 0 and 1 by the middle
module _ (p m : Float) where
  factor_before : is_nan p ≡ false → T (le p f0) → f0 ≡ factor_of p m
  factor_before n h = place_low p m n (is_true (le p f0) h)

  factor_after : is_nan p ≡ false → le p f0 ≡ false → T (le f1 p) → f1 ≡ factor_of p m
  factor_after n a h = place_high p m n a (is_true (le f1 p) h)

  module _ (o : Open p) (n : is_nan m ≡ false) where
    passed : T (le m f0) → f1 ≡ factor_of p m
    passed h = middle_low p m o.number o.over o.under n (is_true (le m f0) h)

    ahead : le m f0 ≡ false → T (le f1 m) → f0 ≡ factor_of p m
    ahead a h = middle_high p m o.number o.over o.under n a (is_true (le f1 m) h)

    curves : Open m → fall_of (depth_of p ⊘ depth_of m) ≡ factor_of p m
    curves w = middle_inside p m o.number o.over o.under n w.over w.under

ratio_falls : (p q m : Float) → Inside p → Inside q → Inside m → T (le p q) → T (le (depth_of q ⊘ depth_of m) (depth_of p ⊘ depth_of m))
ratio_falls p q m i j k h =
    div_mono (depth_of q) (depth_of m) (depth_of p) (depth_of m) (depth_finite q j) (depth_finite m k) (depth_finite p i) (depth_finite m k)
    (depth_low q j) (depth_falls p q i j h) (depth_low m k) (depth_some m k) (le_refl (depth_of m) (no_nan_r f0 (depth_of m) (depth_low m k)))

-- ---- from 0 to 1
within_at : (p m : Float) → is_nan p ≡ false → is_nan m ≡ false → Lies p → Lies m → Within (factor_of p m)
within_at p m n k (before h) w = subst Within (factor_before p m n h) (zero-zero, zero_one)
within_at p m n k (after a h) w = subst Within (factor_after p m n a h) (zero_one, one_one)
within_at p m n k (inner o) (before h) = subst Within (passed p m o k h) (zero_one, one_one)
within_at p m n k (inner o) (after a h) = subst Within (ahead p m o k a h) (zero-zero, zero_one)
within_at p m n k (inner o) (inner w) = subst Within (curves p m o k w) (fall_within (depth_of p ⊘ depth_of m) (ratio_low p m o.is w.is))

pub factor_within : (p m : Float) → T (fits binary32 p) → T (fits binary32 m) → is_nan p ≡ false → is_nan m ≡ false → Within (factor_of p m)
factor_within p m f g n k = within_at p m n k (lies p f n) (lies m g k)

-- ---- in order
open_rises : (p q m : Float) → is_nan m ≡ false → Open p → Open q → T (le p q) → Lies m → T (le (factor_of p m) (factor_of q m))
open_rises p q m k o u h (before l) = subst (λ (x : Float). T (le x (factor_of q m))) (passed p m o k l) (subst (λ (x : Float). T (le f1 x)) (passed q m u k l) one_one)
open_rises p q m k o u h (after a l) = subst (λ (x : Float). T (le x (factor_of q m))) (ahead p m o k a l) (subst (λ (x : Float). T (le f0 x)) (ahead q m u k a l) zero-zero)
open_rises p q m k o u h (inner w) =
    subst (λ (x : Float). T (le x (factor_of q m))) (curves p m o k w)
    (subst (λ (x : Float). T (le (fall_of (depth_of p ⊘ depth_of m)) x)) (curves q m u k w)
    (fall_falls (depth_of q ⊘ depth_of m) (depth_of p ⊘ depth_of m) (ratio_low q m u.is w.is) (ratio_falls p q m o.is u.is w.is h)))

pub factor_rising : (p q m : Float) → T (fits binary32 p) → T (fits binary32 q) → T (fits binary32 m) → is_nan m ≡ false → T (le p q) → T (le (factor_of p m) (factor_of q m))
factor_rising p q m fp fq fm k h = go (lies p fp np) (lies q fq nq)
  where
    np : is_nan p ≡ false
    np = no_nan_l p q h

    nq : is_nan q ≡ false
    nq = no_nan_r p q h

    to_one : le q f0 ≡ false → T (le f1 q) → T (le (factor_of p m) (factor_of q m))
    to_one a l = subst (λ (x : Float). T (le (factor_of p m) x)) (factor_after q m nq a l) (factor_within p m fp fm np k).1

    go : Lies p → Lies q → T (le (factor_of p m) (factor_of q m))
    go (before l) z = subst (λ (x : Float). T (le x (factor_of q m))) (factor_before p m np l) (factor_within q m fq fm nq k).0
    go (inner o) (after a l) = to_one a l
    go (after b j) (after a l) = to_one a l
    go (inner o) (inner u) = open_rises p q m k o u h (lies m fm k)
    go (inner o) (before l) = absurd (true≢false (sym (is_true (le p f0) (le_trans p q f0 h l)) ∙ o.over))
    go (after a l) (before j) = absurd (true≢false (sym (is_true (le p f0) (le_trans p q f0 h j)) ∙ a))
    go (after a l) (inner u) = absurd (true≢false (sym (is_true (le f1 q) (le_trans f1 p q l h)) ∙ u.under))

-- ---- at the ends and at the middle
pub factor_starts : (m : Float) → factor_of f0 m ≡ f0
factor_starts m = sym (factor_before f0 m zero_number zero-zero)

pub factor_ends : (m : Float) → factor_of f1 m ≡ f1
factor_ends m = sym (factor_after f1 m one_number one_over one_one)

pub factor_middle : (m : Float) → T (fits binary32 m) → T (lt f0 m) → T (lt m f1) → factor_of m m ≡ half
factor_middle m f l h =
    let n = no_nan_r f0 m (lt→le f0 m l) in
    let o : Open m = record { number = n; over = denied f0 m zero_number n l; under = denied m f1 n one_number h; is = inside m f l h } in
    sym (curves m m o n o) ∙ ap fall_of (self_quotient (depth_of m) (depth_some m o.is)) ∙ fall_one
  where
    denied : (x y : Float) → is_nan x ≡ false → is_nan y ≡ false → T (lt x y) → le y x ≡ false
    denied x y a b t = not-true (le y x) (sym (lt_is x y a b) ∙ is_true (lt x y) t)

pub factor_laws : FactorLaws
factor_laws = record {
  split = λ x f l h. split x (inside x f l h);
  half_deep = half_deep;
  factor_within = factor_within;
  factor_rising = factor_rising;
  factor_starts = factor_starts;
  factor_middle = factor_middle;
  factor_ends = factor_ends;
}
